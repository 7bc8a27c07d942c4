use Rattle.std.proofs.Common.{◌≡◌, map, take}
use Rattle.spdx_parser.specs.Tree.{node_of}
use Rattle.spdx_parser.specs.Spans.{requirement_spans}
use Rattle.spdx.proofs.expression.clone_nodes.Given as goal

abbrev pub invariant-loop-node : goal.invariant-loop-node
invariant-loop-node l = record {
  nodes : map node_of l.copy.items ≡ map node_of (take l.node-index l.nodes);
  spans : requirement_spans l.copy.items ≡ requirement_spans (take l.node-index l.nodes);
}
