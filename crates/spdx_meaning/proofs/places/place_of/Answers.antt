use Rattle.std.proofs.Common.{rules, arith, ◌≡◌, ◌<◌, ◌≤◌, true, false, length, get_or, sym, ◌∙◌, ap}
use Rattle.std.specs.Ordering.{is_eq}
use Rattle.std.specs.declared.cmp.Ordering.TheVariants.{Equal}
use Rattle.spdx_requirement.specs.Items.{requirement_of}
use Rattle.spdx_requirement.specs.Orders.{requirement_cmp}
use Rattle.spdx_meaning.specs.declared.places.Placed.{Placed}
use Rattle.spdx_meaning.specs.Placed.{entry_of}
use Rattle.spdx_meaning.proofs.Order.{requirements_total, same_is_tied, tied_of_same}
use Rattle.spdx_meaning.proofs.Numbered.{found, missing}
use Rattle.spdx_meaning.proofs.Placing.{place_is}
use Rattle.spdx_meaning.proofs.places.place_of.Goals as goal

pub returns-in-Some : goal.returns-in-Some
returns-in-Some c =
    let ordered = c.args.ordered.now in
    let r = requirement_of c.args.requirement.now in
    let i = c.first_from.result in
    let first = c.in-Some.first.now in
    let lt : i < length ordered = search rules in
    let is : get_or ordered i first ≡ first = search rules in
    let tie : requirement_cmp (entry_of (get_or ordered i first)).0 r ≡ Equal =
    ap (λ (p : Placed). requirement_cmp (entry_of p).0 r) is ∙ tied_of_same (entry_of first).0 r (sym c.are_same_requirement.ensures.test ∙ c.if-are_same_requirement.true) in
    λ qs placed. ap (λ (p : Placed). p.place) (sym is)
    ∙ sym (place_is qs r _ (found requirement_cmp requirements_total entry_of qs ordered r c.requires placed i c.first_from.ensures first lt tie))

pub returns-in_default : goal.returns-in_default
returns-in_default c =
    let ordered = c.args.ordered.now in
    let r = requirement_of c.args.requirement.now in
    let i = c.first_from.result in
    let first = c.in-Some.first.now in
    λ qs placed. sym (place_is qs r (length ordered) (missing requirement_cmp requirements_total entry_of qs ordered r c.requires placed i c.first_from.ensures (λ p lt tie.
    let is : first ≡ get_or ordered i p = search rules in
    let level : is_eq (requirement_cmp (entry_of first).0 r) ≡ true = ap (λ (z : Placed). is_eq (requirement_cmp (entry_of z).0 r)) is ∙ ap is_eq tie in
    let bad : true ≡ false = sym level ∙ sym (same_is_tied (entry_of first).0 r) ∙ sym c.are_same_requirement.ensures.test ∙ c.if-are_same_requirement.false in
    absurd cc)))

pub returns-in_default-2 : goal.returns-in_default-2
returns-in_default-2 c =
    let ordered = c.args.ordered.now in
    let r = requirement_of c.args.requirement.now in
    let out : length ordered ≤ c.first_from.result = search rules in
    λ qs placed. sym (place_is qs r (length ordered)
    (missing requirement_cmp requirements_total entry_of qs ordered r c.requires placed c.first_from.result c.first_from.ensures (λ p lt tie. absurd (omega arith))))
