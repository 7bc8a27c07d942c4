use Rattle.std.proofs.Common.{◌≡◌, ◌≤◌}
use Rattle.spdx_minimize.proofs.Asking.{Asking}
use Rattle.spdx_why.specs.Serving.{lists_in, with_served}
use Rattle.spdx_why.proofs.judge.is_true.Given as goal

abbrev pub invariant-loop-node : goal.invariant-loop-node
invariant-loop-node l = record {
  so_far : Asking l.nodes l.node-index (with_served l.accepted (lists_in l.serving) l.selection) l.number l.truths;
  place : l.number ≤ l.node-index;
  room : l.truths.room ≡ l.fn.truths.room;
}
