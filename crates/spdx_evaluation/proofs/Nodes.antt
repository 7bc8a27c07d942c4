-- The requirements and the places among the nodes of a tree.
use Rattle.std.proofs.Common.{◌≡◌, suc, ◌+◌, ◌*◌, ◌≤◌, List, [], ◌∷◌, ◌++◌, length, map, refl, ◌∙◌, ap, arith}
use Rattle.std.specs.List.{zip}
use Rattle.std.specs.Option.{option_to_list}
use Rattle.std.proofs.lemmas.List.{append-nil, length-append}
use Rattle.spdx_requirement.specs.Items.{Requirement, requirement_of}
use Rattle.spdx_lexer.specs.Words.{Span}
use Rattle.spdx_parser.specs.declared.node.ExpressionReq.{ExpressionReq}
use Rattle.spdx_parser.specs.declared.node.ExprNode.{ExprNode}
use Rattle.spdx_parser.specs.Tree.{Tree, Leaf, Join, Node, Op, Req, postfix, leaves, node_of}
use Rattle.spdx_lexer.specs.Code.{span_of}
use Rattle.spdx_parser.specs.Spans.{requirement_spans, node_span}
use Rattle.spdx_evaluation.specs.Requirements.{PlacedRequirement, placed_of, requirements_in, placed_in}

abbrev pub requirement_at : ExpressionReq → Requirement
requirement_at r = requirement_of r.req

-- the requirements among nodes without places
abbrev pub leaves_in : List Node → List Requirement
leaves_in [] = []
leaves_in (Req r ∷ ns) = r ∷ leaves_in ns
leaves_in (Op o ∷ ns) = leaves_in ns

leaves_in-append : (ms ns : List Node) → leaves_in (ms ++ ns) ≡ leaves_in ms ++ leaves_in ns
leaves_in-append [] ns = refl
leaves_in-append (Req r ∷ ms) ns = ap (λ (z : List Requirement). r ∷ z) (leaves_in-append ms ns)
leaves_in-append (Op o ∷ ms) ns = leaves_in-append ms ns

leaves_in_postfix : (t : Tree) → leaves_in (postfix t) ≡ leaves t
leaves_in_postfix (Leaf r) = refl
leaves_in_postfix (Join o l r) =
    leaves_in-append (postfix l) (postfix r ++ Op o ∷ [])
    ∙ ap (λ (z : List Requirement). leaves_in (postfix l) ++ z) (leaves_in-append (postfix r) (Op o ∷ []) ∙ append-nil (leaves_in (postfix r)))
    ∙ ap (λ (z : List Requirement). z ++ leaves_in (postfix r)) (leaves_in_postfix l)
    ∙ ap (λ (z : List Requirement). leaves l ++ z) (leaves_in_postfix r)

requirements_are : (nodes : List ExprNode) → map requirement_at (requirements_in nodes) ≡ leaves_in (map node_of nodes)
requirements_are [] = refl
requirements_are (ExprNode.Op o ∷ nodes) = requirements_are nodes
requirements_are (ExprNode.Req r ∷ nodes) = ap (λ (z : List Requirement). requirement_at r ∷ z) (requirements_are nodes)

pub requirements_of_tree : (nodes : List ExprNode) (t : Tree) → map node_of nodes ≡ postfix t → map requirement_at (requirements_in nodes) ≡ leaves t
requirements_of_tree nodes t e = requirements_are nodes ∙ ap leaves_in e ∙ leaves_in_postfix t

placed_apart : (nodes : List ExprNode) → placed_in nodes ≡ zip (leaves_in (map node_of nodes)) (requirement_spans nodes)
placed_apart [] = refl
placed_apart (ExprNode.Op o ∷ nodes) = placed_apart nodes
placed_apart (ExprNode.Req r ∷ nodes) = ap (λ (z : List PlacedRequirement). placed_of r ∷ z) (placed_apart nodes)

pub placed_of_tree : (nodes : List ExprNode) (t : Tree) → map node_of nodes ≡ postfix t → placed_in nodes ≡ zip (leaves t) (requirement_spans nodes)
placed_of_tree nodes t e = placed_apart nodes ∙ ap (λ (z : List Requirement). zip z (requirement_spans nodes)) (ap leaves_in e ∙ leaves_in_postfix t)

pub requirements_in-append : (ms ns : List ExprNode) → requirements_in (ms ++ ns) ≡ requirements_in ms ++ requirements_in ns
requirements_in-append [] ns = refl
requirements_in-append (ExprNode.Req r ∷ ms) ns = ap (λ (z : List ExpressionReq). r ∷ z) (requirements_in-append ms ns)
requirements_in-append (ExprNode.Op o ∷ ms) ns = requirements_in-append ms ns

spans_as_many : (nodes : List ExprNode) → length (requirement_spans nodes) ≡ length (leaves_in (map node_of nodes))
spans_as_many [] = refl
spans_as_many (ExprNode.Op o ∷ nodes) = spans_as_many nodes
spans_as_many (ExprNode.Req r ∷ nodes) = ap suc (spans_as_many nodes)

pub spans_of_tree : (nodes : List ExprNode) (t : Tree) → map node_of nodes ≡ postfix t → length (requirement_spans nodes) ≡ length (leaves t)
spans_of_tree nodes t e = spans_as_many nodes ∙ ap (λ (z : List Requirement). length z) (ap leaves_in e ∙ leaves_in_postfix t)

-- no more places than nodes
pub length-placed_in : (nodes : List ExprNode) → length (placed_in nodes) ≤ length nodes
length-placed_in [] = omega arith
length-placed_in (ExprNode.Op o ∷ nodes) = omega (arith, length-placed_in nodes)
length-placed_in (ExprNode.Req r ∷ nodes) = omega (arith, length-placed_in nodes)

-- one node more has its span behind the others
pub spans_more : (nodes : List ExprNode) (n : ExprNode) → requirement_spans (nodes ++ n ∷ []) ≡ requirement_spans nodes ++ option_to_list (node_span n)
spans_more [] (ExprNode.Op o) = refl
spans_more [] (ExprNode.Req r) = refl
spans_more (ExprNode.Op o ∷ nodes) n = spans_more nodes n
spans_more (ExprNode.Req r ∷ nodes) n = ap (λ (z : List Span). span_of r.span ∷ z) (spans_more nodes n)

-- one node less than twice the requirements
pub length-postfix : (t : Tree) → length (postfix t) + 1 ≡ 2 * length (leaves t)
length-postfix (Leaf r) = omega arith
length-postfix (Join o l r) =
    omega (arith, length-append (postfix l) (postfix r ++ Op o ∷ []), length-append (postfix r) (Op o ∷ []), length-append (leaves l) (leaves r), length-postfix l, length-postfix r)
