use Rattle.std.proofs.Common.{◌≡◌, Option, Some, option_map, ap, sym, subst}
use Rattle.spdx_requirement.specs.Rows.{LicenseRow}
use Rattle.spdx_requirement.specs.Ids.{id_row}
use Rattle.spdx_lexer.specs.Code.{word_of}
use Rattle.spdx_canonical.specs.Draft.{IsOff}
use Rattle.spdx_canonical.specs.NextText.{license_and_plus, own_text, next_text}
use Rattle.spdx_canonical.proofs.Drafts.{off_more, err_any}
use Rattle.spdx_canonical.proofs.text.push_next.Goals as goal

pub returns-in_err-push_license-clause-err : goal.returns-in_err-push_license-clause-err
returns-in_err-push_license-clause-err c =
    let d = c.args.draft.now in
    let w = word_of c.args.token in
    let r = id_row c.in-Some.id in
    let before : Some r ≡ option_map id_row c.args.before = sym (ap (option_map id_row) c.in-Some.is) in
    let off = subst (λ b. IsOff d (license_and_plus b r)) c.is_plus_word.ensures c.in_err-push_license.ensures.err in
    err_any c.from_residual.result (subst (λ (o : Option LicenseRow). IsOff d (next_text o w)) before (off_more d _ (own_text w) off))
