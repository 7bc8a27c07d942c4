use Rattle.std.proofs.Common.{◌≡◌, drop}
use Rattle.spdx_evaluation.specs.Requirements.{placed_in}
use Rattle.spdx.proofs.expression.iterators.RequirementsIterator.next.Given as goal

abbrev pub invariant-loop-i : goal.invariant-loop-i
invariant-loop-i l = placed_in (drop l.i l.nodes) ≡ placed_in l.nodes
