use Rattle.std.proofs.Common.{◌≡◌, ◌∙◌, drop, ap, sym, ℕ, [], add-one, get_or, ◌∷◌, ◌+◌}
use Rattle.std.proofs.Math.Seq.{drop-cons}
use Rattle.std.proofs.Math.ListN.{drop_of_length-le}
use Rattle.std.specs.List.{fold}
use Rattle.spdx_catalogue.specs.Index as spec
use Rattle.spdx_catalogue.proofs.index.sum_of_all.Goals as goal

pub loop-b-preserved : goal.loop-b-preserved
loop-b-preserved c =
    let bs = c.args.bytes.now in
    let i = c.loop-b.b-index in
    let split : drop i bs ≡ get_or bs i 0 ∷ drop (i + 1) bs = rw (add-one, drop-cons bs i 0 c.loop-b-test.true) in
    ap (λ (k : ℕ). fold spec.mixed k (drop (i + 1) bs)) c.mixed-sum.ensures ∙ sym (ap (fold spec.mixed c.loop-b.sum) split) ∙ c.loop-b.invariant

pub returns : goal.returns
returns c =
    let bs = c.args.bytes.now in
    let i = c.loop-b.b-index in
    let none : drop i bs ≡ [] = drop_of_length-le bs c.loop-b-test.false in
    sym (ap (fold spec.mixed c.loop-b.sum) none) ∙ c.loop-b.invariant
