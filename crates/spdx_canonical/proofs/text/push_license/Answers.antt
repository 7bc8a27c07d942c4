use Rattle.std.proofs.Common.{◌≡◌, ◌++◌, true, List, ℕ, IfErr, ap, sym, subst, ◌∙◌, rules}
use Rattle.std.specs.Prelude.{codes}
use Rattle.spdx_requirement.specs.Ids.{id_row}
use Rattle.spdx_requirement.specs.Endings.{without_only}
use Rattle.spdx_canonical.specs.Draft.{IsOff}
use Rattle.spdx_canonical.specs.NextText.{license_and_plus}
use Rattle.spdx_canonical.proofs.Drafts.{err_any}
use Rattle.spdx_canonical.proofs.Pushed.{gnu_text, off_plain, off_gnu}
use Rattle.spdx_canonical.proofs.text.push_license.Goals as goal

pub returns-in_err-push-clause-err : goal.returns-in_err-push-clause-err
returns-in_err-push-clause-err c =
    let d = c.args.draft.now in
    let r = id_row c.args.id in
    let named : c.as_str-name.result.now ≡ r.name = search rules in
    err_any c.from_residual.result (off_plain d c.args.plus r (sym c.is_gnu.ensures ∙ c.if-not-is_gnu.true) (subst (IsOff d) named c.in_err-push.ensures.err))

pub returns-then-plus-2-clause-err : goal.returns-then-plus-2-clause-err
returns-then-plus-2-clause-err c =
    let d = c.args.draft.now in
    let r = id_row c.args.id in
    let named : c.as_str-name.result.now ≡ r.name = search rules in
    let same : c.without_only.result.now ++ codes "-or-later" ≡ license_and_plus c.args.plus r =
    ap (λ (n : List ℕ). n ++ codes "-or-later") (c.without_only.ensures ∙ ap without_only named) ∙ sym (ap (λ b. license_and_plus b r) c.if-plus-2.true ∙ gnu_text true r (sym c.is_gnu.ensures ∙ c.if-not-is_gnu.false)) in
    subst (λ (t : List ℕ). IfErr c.push_both.result (λ _. IsOff d t)) same c.push_both.ensures.err

pub returns-in_err-push-2-clause-err : goal.returns-in_err-push-2-clause-err
returns-in_err-push-2-clause-err c =
    let d = c.args.draft.now in
    let r = id_row c.args.id in
    let named : c.as_str-name.result.now ≡ r.name = search rules in
    err_any c.from_residual-in_err-push-2.result (off_gnu d c.args.plus r (sym c.is_gnu.ensures ∙ c.if-not-is_gnu.false) c.if-plus-2.false (subst (IsOff d) named c.in_err-push-2.ensures.err))
