-- What the iterators over an expression have left, and in what order the nodes come.
use Rattle.std.specs.Prelude.{List, [], ◌∷◌, Some, None, map}
use Rattle.spdx_lexer.specs.Words.{Span}
use Rattle.spdx_parser.specs.Tree.{Node, Op, Req, postfix}
use Rattle.spdx_parser.specs.Nodes.{PlacedNode, placed_node}
use Rattle.spdx.specs.Value.{Written}
use Rattle.spdx_evaluation.specs.Requirements.{PlacedRequirement, placed_in}
use Rattle.spdx.specs.declared.expression.iterators.Nodes.{Nodes}
use Rattle.spdx.specs.declared.expression.iterators.Requirements.{Requirements}

abbrev pub nodes_left : Nodes → List PlacedNode
nodes_left s = map placed_node s.rest.now

abbrev pub requirements_left : Requirements → List PlacedRequirement
requirements_left s = placed_in s.rest.now

-- the nodes, of which each requirement has the next place
abbrev pub at_places : List Node → List Span → List PlacedNode
at_places [] spans = []
at_places (Op o ∷ nodes) spans = (Op o, None) ∷ at_places nodes spans
at_places (Req r ∷ nodes) [] = (Req r, None) ∷ at_places nodes []
at_places (Req r ∷ nodes) (s ∷ spans) = (Req r, Some s) ∷ at_places nodes spans

-- the postfix list of the tree, each requirement with its place
abbrev pub placed_nodes : Written → List PlacedNode
placed_nodes w = at_places (postfix w.tree) w.spans
