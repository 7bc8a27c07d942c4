use Rattle.std.proofs.Common.{◌≡◌, ◌≤◌, map}
use Rattle.spdx_minimize.proofs.Asking.{Asking}
use Rattle.spdx_meaning.specs.Marks.{has_mark}
use Rattle.spdx_meaning.proofs.asks.holds_with.Given as goal

abbrev pub invariant-loop-node : goal.invariant-loop-node
invariant-loop-node l = record {
  so_far : Asking l.nodes l.node-index (map (has_mark l.marks l.mark) l.numbers) l.number l.truths;
  place : l.number ≤ l.node-index;
  room : l.truths.room ≡ l.fn.truths.room;
}
