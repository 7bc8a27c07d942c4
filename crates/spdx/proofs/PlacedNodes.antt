-- The nodes of a tree with their places.
use Rattle.std.proofs.Common.{◌≡◌, List, [], ◌∷◌, map, refl, ◌∙◌, ap}
use Rattle.spdx_parser.specs.declared.node.ExprNode.{ExprNode}
use Rattle.spdx_parser.specs.Tree.{Tree, Node, postfix, node_of}
use Rattle.spdx_parser.specs.Spans.{requirement_spans}
use Rattle.spdx_parser.specs.Nodes.{PlacedNode, placed_node}
use Rattle.spdx.specs.Iterators.{at_places}

nodes_apart : (nodes : List ExprNode) → map placed_node nodes ≡ at_places (map node_of nodes) (requirement_spans nodes)
nodes_apart [] = refl
nodes_apart (ExprNode.Op o ∷ nodes) = ap (λ (z : List PlacedNode). placed_node (ExprNode.Op o) ∷ z) (nodes_apart nodes)
nodes_apart (ExprNode.Req r ∷ nodes) = ap (λ (z : List PlacedNode). placed_node (ExprNode.Req r) ∷ z) (nodes_apart nodes)

pub nodes_of_tree : (nodes : List ExprNode) (t : Tree) → map node_of nodes ≡ postfix t → map placed_node nodes ≡ at_places (postfix t) (requirement_spans nodes)
nodes_of_tree nodes t e = nodes_apart nodes ∙ ap (λ (z : List Node). at_places z (requirement_spans nodes)) e
