use Rattle.std.proofs.Common.{ℕ, List, below_more, ap, subst, sym, ◌∙◌}
use Rattle.std.specs.Prelude.{Contains}
use Rattle.spdx_gate.specs.Benches.{key_of, places_at}
use Rattle.spdx_gate.proofs.Benches.{nowhere}
use Rattle.spdx_gate.proofs.bench.known_place.Goals as goal

pub loop-place-preserved : goal.loop-place-preserved
loop-place-preserved c = below_more _ _ c.loop-place.invariant (λ at. absurd (cc (c.is_at.ensures.found at)))

pub returns-then-is_at : goal.returns-then-is_at
returns-then-is_at c = c.is_at.ensures.told c.if-is_at.true

pub returns : goal.returns
returns c =
    let at_key = c.places_under-places.ensures ∙ ap (places_at c.args.by_key.now) c.requires.key in
    let there = λ (k : ℕ) (h : Contains (places_at c.args.by_key.now (key_of c.args.sought.exceptions.now c.args.sought.text.now)) k). subst (λ (z : List ℕ). Contains z k) (sym at_key) h in
    nowhere c.args.judgements.now c.args.sought.exceptions.now c.args.sought.text.now c.places_under-places.result.now c.loop-place.place-index c.loop-place-test.false
    (λ k at. there k (c.requires.index c.args.sought.exceptions.now c.args.sought.text.now k at)) c.loop-place.invariant
