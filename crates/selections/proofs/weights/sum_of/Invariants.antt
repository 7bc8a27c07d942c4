use Rattle.std.proofs.Common.{◌≡◌, ◌+◌, ◌*◌, ◌≤◌, drop}
use Rattle.selections.specs.Weights.{chosen_sum}
use Rattle.selections.proofs.weights.sum_of.Given as goal

abbrev pub invariant-loop-i : goal.invariant-loop-i
invariant-loop-i l = record {
  small : l.sum ≤ 255 * l.i;
  rest : l.sum + chosen_sum (drop l.i l.weights) (drop l.i l.selection) ≡ chosen_sum l.weights l.selection;
}
