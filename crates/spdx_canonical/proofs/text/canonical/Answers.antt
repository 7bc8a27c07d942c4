use Rattle.std.proofs.Common.{◌≡◌, ◌∷◌, Ok, false, Option, is_some, option_map, ap, sym, subst, ◌∙◌}
use Rattle.spdx_requirement.specs.Rows.{LicenseRow}
use Rattle.spdx_requirement.specs.Ids.{id_row}
use Rattle.spdx_lexer.specs.Layout.{IsPlace, place_of}
use Rattle.spdx_lexer.specs.Code.{word_of, span_of, item_of}
use Rattle.spdx_lexer.specs.Remainder.{items_left}
use Rattle.spdx_canonical.specs.NextText.{is_misplaced, next_text, waiting}
use Rattle.spdx_canonical.specs.Draft.{Drafted, extended}
use Rattle.spdx_canonical.proofs.Continued.{continued, step, is_some-map, never_off, never_off_at_end, Places, first_place, other_places}
use Rattle.spdx_canonical.proofs.text.canonical.Goals as goal

pub loop-item-preserved : goal.loop-item-preserved
loop-item-preserved c =
    let d = c.loop-item.draft in
    let before = option_map id_row c.loop-item.before in
    let w = word_of c.in-Ok.found.token in
    let s = span_of c.in-Ok.found.span in
    let left = items_left c.next.new.self.now in
    let next : items_left c.loop-item.item-iterator.now ≡ Ok (w, s) ∷ left = c.in-Some.ensures.steps ∙ ap (λ i. item_of i ∷ left) c.in-Ok.is in
    let placed : is_misplaced (is_some before) w ≡ false = ap (λ b. is_misplaced b w) (is_some-map id_row c.loop-item.before ∙ sym c.is_some.ensures) ∙ sym c.is_misplaced.ensures ∙ c.if-is_misplaced.false in
    let written : c.push_next.new.draft ≡ extended d (next_text before w) = c.in_ok-push_next.ensures.ok in (
      ap (λ (e : Drafted). e.text) written ∙ c.loop-item.invariant.0,
      c.loop-item.invariant.1 ∙ ap (continued d before) next ∙ step d before w s left placed
          ∙ ap (λ (e : Drafted). continued e (waiting w) left) (sym written)
          ∙ ap (λ (o : Option LicenseRow). continued c.push_next.new.draft o left) (sym c.waiting-before.ensures),
      other_places c.args.text.now (Ok (w, s)) left (subst (Places c.args.text.now) next c.loop-item.invariant.2),
    )

-- where memory is refused, the canonical text is another one

pub returns-in_err-push_next-clause-itself : goal.returns-in_err-push_next-clause-itself
returns-in_err-push_next-clause-itself c = λ e.
    let d = c.loop-item.draft in
    let before = option_map id_row c.loop-item.before in
    let w = word_of c.in-Ok.found.token in
    let s = span_of c.in-Ok.found.span in
    let left = items_left c.next.new.self.now in
    let next : items_left c.loop-item.item-iterator.now ≡ Ok (w, s) ∷ left = c.in-Some.ensures.steps ∙ ap (λ i. item_of i ∷ left) c.in-Ok.is in
    let placed : is_misplaced (is_some before) w ≡ false = ap (λ b. is_misplaced b w) (is_some-map id_row c.loop-item.before ∙ sym c.is_some.ensures) ∙ sym c.is_misplaced.ensures ∙ c.if-is_misplaced.false in
    absurd (never_off d before w s left c.args.text.now c.loop-item.invariant.0 placed c.in_err-push_next.ensures.err (sym (c.loop-item.invariant.1 ∙ ap (continued d before) next) ∙ e))

pub returns-in_err-push_license-clause-itself : goal.returns-in_err-push_license-clause-itself
returns-in_err-push_license-clause-itself c = λ e.
    let d = c.loop-item.draft in
    let before = option_map id_row c.loop-item.before in
    let r = id_row c.in-Some-before.id in
    absurd (never_off_at_end d before r c.args.text.now c.loop-item.invariant.0 (ap (option_map id_row) c.in-Some-before.is) c.in_err-push_license.ensures.err (sym (c.loop-item.invariant.1 ∙ ap (continued d before) c.in-None.ensures.steps.0) ∙ e))

-- ---- the place of a fault

pub returns-in-Err-clause-place : goal.returns-in-Err-clause-place
returns-in-Err-clause-place c =
    let i = item_of c.in-Some.item in
    let left = items_left c.next.new.self.now in
    let here = first_place c.args.text.now i left (subst (Places c.args.text.now) c.in-Some.ensures.steps c.loop-item.invariant.2) in
    subst (λ x. IsPlace c.args.text.now (place_of (item_of x))) c.in-Err.is here

pub returns-then-is_misplaced-clause-place : goal.returns-then-is_misplaced-clause-place
returns-then-is_misplaced-clause-place c =
    let i = item_of c.in-Some.item in
    let left = items_left c.next.new.self.now in
    let here = first_place c.args.text.now i left (subst (Places c.args.text.now) c.in-Some.ensures.steps c.loop-item.invariant.2) in
    subst (λ x. IsPlace c.args.text.now (place_of (item_of x))) c.in-Ok.is here
