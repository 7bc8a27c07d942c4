use Rattle.std.proofs.Common.{◌≡◌, map, drop, length}
use Rattle.std.specs.Cmp.Lexicographic.{pointwise}
use Rattle.spdx_parser.specs.Tree.{node_of}
use Rattle.spdx.specs.Equality.{same_node}
use Rattle.spdx.proofs.expression.equality.same_nodes.Given as goal

abbrev pub invariant-loop-i : goal.invariant-loop-i
invariant-loop-i l = record {
  one_length : length l.a ≡ length l.b;
  rest : pointwise same_node (map node_of (drop l.i l.a)) (map node_of (drop l.i l.b)) ≡ pointwise same_node (map node_of l.a) (map node_of l.b);
}
