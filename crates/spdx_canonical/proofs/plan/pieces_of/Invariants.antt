use Rattle.std.proofs.Common.{◌≡◌, ◌+◌, ◌*◌, ◌≤◌, map, length, vec_len, take}
use Rattle.spdx_parser.specs.Tree.{Tree, postfix, node_of}
use Rattle.spdx_canonical.proofs.Walk.{Shows}
use Rattle.spdx_canonical.proofs.plan.pieces_of.Given as goal

abbrev pub invariant-loop-task : goal.invariant-loop-task
invariant-loop-task l = record {
  in_range : l.left ≤ length l.nodes;
  shown : (t : Tree) → map node_of l.nodes ≡ postfix t → Shows l.nodes t (map node_of (take l.left l.nodes)) l.tasks.items l.pieces.items;
}

abbrev pub decreases-loop-task : goal.decreases-loop-task
decreases-loop-task l = 5 * l.left + vec_len l.tasks
