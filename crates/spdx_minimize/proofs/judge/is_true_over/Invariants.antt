use Rattle.std.proofs.Common.{◌≡◌}
use Rattle.spdx_minimize.specs.Places.{answers}
use Rattle.spdx_minimize.proofs.Asking.{Asking}
use Rattle.spdx_minimize.proofs.judge.is_true_over.Given as goal

abbrev pub invariant-loop-node : goal.invariant-loop-node
invariant-loop-node l = record {
  so_far : Asking l.nodes l.node-index (answers l.selection l.question) l.leaf l.truths;
  room : l.truths.room ≡ l.fn.truths.room;
}
