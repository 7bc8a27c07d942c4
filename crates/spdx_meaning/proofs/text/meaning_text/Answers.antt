use Rattle.std.proofs.Common.{rules, ◌≡◌, ℕ, List, Result, Ok, Err, map, refl, sym, ◌∙◌, ap, subst}
use Rattle.std.specs.Prelude.{IsOk, codes, string_bytes}
use Rattle.std.specs.Global.{Vec}
use Rattle.spdx_requirement.specs.declared.requirement.LicenseReq.{LicenseReq}
use Rattle.spdx_requirement.specs.Items.{requirement_of}
use Rattle.spdx_requirement.specs.Orders.{requirement_cmp}
use Rattle.spdx_parser.specs.Tree.{leaves}
use Rattle.spdx_evaluation.specs.Postfix.{tree_in}
use Rattle.selections.specs.Sets.{set_of, sets_in}
use Rattle.spdx_meaning.specs.Made.{made_by}
use Rattle.spdx_meaning.proofs.Meaning.{made_apart}
use Rattle.spdx_meaning.proofs.Refusals.{handed_on}
use Rattle.spdx_meaning.specs.Ranks.{rank_in, name_at}
use Rattle.spdx_meaning.specs.Joined.{joined}
use Rattle.spdx_meaning.proofs.Order.{requirements_total}
use Rattle.spdx_meaning.proofs.Ranked.{rises}
use Rattle.spdx_meaning.proofs.Written.{is_meaning_text}
use Rattle.spdx_meaning.proofs.text.meaning_text.Goals as goal

abbrev text_of : List LicenseReq → List (Vec ℕ) → List ℕ
text_of xs vs = joined (codes " OR ") (λ v. joined (codes " AND ") (name_at (map requirement_of xs)) (set_of v)) vs

pub returns-in_err-sets-clause-err : goal.returns-in_err-sets-clause-err
returns-in_err-sets-clause-err c =
    let f = rank_in (leaves (tree_in c.args.nodes.now)) in
    let same : c.from_residual-in_err-sets.result ≡ Err c.in_err-sets.field-0.0 = search rules in
    handed_on _ _ (λ e h. h f (c.as_slice-2.ensures.value ∙ c.in_ok-ranks.ensures)) _ c.in_err-sets.field-0.0 same c.in_err-sets.ensures.err

pub returns-clause-ok : goal.returns-clause-ok
returns-clause-ok c =
    let t = tree_in c.args.nodes.now in
    let f = rank_in (leaves t) in
    let requirements = c.in_ok-requirements.requirements.items in
    let sets = sets_in c.in_ok-sets.sets.items in
    let made : made_by f t ≡ Ok sets = c.in_ok-sets.ensures.ok f (c.as_slice-2.ensures.value ∙ c.in_ok-ranks.ensures) in
    let apart = made_apart f t sets made in
    let up = rises requirement_cmp requirements_total requirement_of requirements c.in_ok-requirements.ensures.up in
    let said : string_bytes c.put_sets.new.text ≡ text_of c.as_slice-3.result.now c.as_slice-4.result.now = search rules in
    let written : string_bytes c.put_sets.new.text ≡ text_of requirements c.in_ok-ordered.ordered.items =
    said ∙ ap (λ (xs : List LicenseReq). text_of xs c.as_slice-4.result.now) c.as_slice-3.ensures.value ∙ ap (text_of requirements) c.as_slice-4.ensures.value in
    is_meaning_text t (map requirement_of requirements) c.in_ok-requirements.ensures.same up sets c.in_ok-ordered.ordered.items _ made
    c.in_ok-ordered.ensures.means (c.in_ok-ordered.ensures.apart apart) c.in_ok-ordered.ensures.rise (c.in_ok-ordered.ensures.ordered apart) written

pub returns-clause-few : goal.returns-clause-few
returns-clause-few c =
    let t = tree_in c.args.nodes.now in
    let f = rank_in (leaves t) in
    let made : made_by f t ≡ Ok (sets_in c.in_ok-sets.sets.items) = c.in_ok-sets.ensures.ok f (c.as_slice-2.ensures.value ∙ c.in_ok-ranks.ensures) in
    subst (λ (r : Result (List (List ℕ)) ℕ). IsOk r) (sym made) refl
