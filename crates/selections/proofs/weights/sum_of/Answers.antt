use Rattle.std.proofs.Common.{arith, ◌≡◌, length, ℕ, List, Bool, false, ◌+◌, ◌<◌, rules, cond, drop, get_or}
use Rattle.std.proofs.lemmas.List.{drop_more}
use Rattle.selections.specs.Weights.{chosen_sum}
use Rattle.selections.proofs.weights.sum_of.Goals as goal
use Rattle.selections.proofs.weights.sum_of.Goals.{then-selection-i, else-selection-i}

step : (ws : List ℕ) (bs : List Bool) (i : ℕ) → i < length ws → i < length bs → chosen_sum (drop i ws) (drop i bs) ≡ cond (get_or bs i false) (get_or ws i 0) 0 + chosen_sum (drop (i + 1) ws) (drop (i + 1) bs)
step ws bs i h k = rw (drop_more ws i 0 h, drop_more bs i false k) search rules

pub loop-i-preserved : goal.loop-i-preserved
loop-i-preserved c =
    let next = step c.args.weights.now c.args.selection.now c.loop-i.i (omega arith) (omega arith) in
    let byte = c.type_inv.weights c.loop-i.i in
    elim c.if-selection-i.branch [
      | then-selection-i w ↦ let e = rw w.if-selection-i.true at next in record { small = omega (arith, byte); rest = omega arith }
      | else-selection-i w ↦ let e = rw w.if-selection-i.false at next in record { small = omega arith; rest = omega arith }
    ]
