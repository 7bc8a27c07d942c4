-- The order of operators, nodes with their places, and those that take no memory when they are
-- copied.
use Rattle.std.specs.Prelude.{Option}
use Rattle.std.specs.declared.cmp.Ordering.{Ordering}
use Rattle.std.specs.declared.cmp.Ordering.TheVariants.{Less, Equal, Greater}
use Rattle.spdx_requirement.specs.References.{HasNoReference}
use Rattle.spdx_lexer.specs.Words.{Span}
use Rattle.spdx_parser.specs.declared.node.Operator.{Operator}
use Rattle.spdx_parser.specs.declared.node.Operator.TheVariants.{And, Or}
use Rattle.spdx_parser.specs.declared.node.ExprNode.{ExprNode}
use Rattle.spdx_parser.specs.Tree.{Node, Op, Req, node_of}
use Rattle.spdx_parser.specs.Spans.{node_span}

-- AND before OR
abbrev pub operator_cmp : Operator → Operator → Ordering
operator_cmp And And = Equal
operator_cmp And Or = Less
operator_cmp Or And = Greater
operator_cmp Or Or = Equal

-- a node of the postfix form, and of a requirement the place
abbrev pub PlacedNode : Type 0
PlacedNode = Node × Option Span

abbrev pub placed_node : ExprNode → PlacedNode
placed_node n = (node_of n, node_span n)

-- an operator, or a requirement of listed names alone
abbrev pub NodeHasNoReference : Node → Type 0
NodeHasNoReference (Op o) = Unit {0}
NodeHasNoReference (Req r) = HasNoReference r
