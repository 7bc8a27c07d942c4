-- The nodes of frames and of trees, and the places of nodes.
use Rattle.std.proofs.Common.{◌≡◌, ℕ, zero, suc, List, [], ◌∷◌, ◌++◌, length, map, Some, None, refl, sym, ◌∙◌, ap, replicate, append_assoc, append-nil}
use Rattle.std.proofs.lemmas.List.{map-append}
use Rattle.spdx_lexer.specs.Code.{span_of}
use Rattle.spdx_lexer.specs.Words.{Span}
use Rattle.spdx_parser.specs.declared.node.ExprNode.{ExprNode}
use Rattle.spdx_parser.specs.declared.node.Operator.{Operator}
use Rattle.spdx_parser.specs.declared.frames.Frame.{Frame}
use Rattle.spdx_parser.specs.Tree.{Tree, Join, Node, Op, postfix, node_of}
use Rattle.spdx_parser.specs.Nodes.{PlacedNode, placed_node}
use Rattle.spdx_parser.specs.Spans.{requirement_spans}
use Rattle.spdx_parser.proofs.Machine as machine
use Rattle.spdx_parser.specs.State.{operators}

-- ---- the nodes of frames

-- the nodes of trees, of which the newest comes first
abbrev pub trees_nodes : List Tree → List Node
trees_nodes [] = []
trees_nodes (t ∷ ts) = trees_nodes ts ++ postfix t

abbrev pub frame_nodes : machine.Frame → List Node
frame_nodes f = trees_nodes f.ors ++ trees_nodes f.ands

abbrev pub outer_nodes : List machine.Frame → List Node
outer_nodes [] = []
outer_nodes (f ∷ fs) = outer_nodes fs ++ frame_nodes f

abbrev pub part_nodes : machine.Part → List Node
part_nodes (machine.Whole t) = postfix t
part_nodes _ = []

abbrev pub frame_of : machine.Frame → Frame
frame_of f = record { ors = length f.ors; ands = length f.ands }

pub fold_nodes : (o : Operator) (ls : List Tree) (t : Tree) → postfix (machine.fold o ls t) ≡ trees_nodes ls ++ (postfix t ++ replicate (length ls) (Op o))
fold_nodes o [] t = sym (append-nil (postfix t))
fold_nodes o (l ∷ ls) t = fold_nodes o ls (Join o l t) ∙ simp append_assoc

-- the nodes once the chain of AND is closed
pub flush_ands : (t : Tree) (f : machine.Frame) (fs : List machine.Frame) (old : List Node) → old ≡ outer_nodes fs ++ (frame_nodes f ++ postfix t) → old ++ replicate (length f.ands) (Op Operator.And) ≡ outer_nodes fs ++ (trees_nodes f.ors ++ postfix (machine.fold Operator.And f.ands t))
flush_ands t f fs old e =
    let flat : (outer_nodes fs ++ (frame_nodes f ++ postfix t)) ++ replicate (length f.ands) (Op Operator.And) ≡ outer_nodes fs ++ (trees_nodes f.ors ++ (trees_nodes f.ands ++ (postfix t ++ replicate (length f.ands) (Op Operator.And)))) = simp append_assoc in
    ap (λ n. n ++ replicate (length f.ands) (Op Operator.And)) e ∙ flat
    ∙ ap (λ n. outer_nodes fs ++ (trees_nodes f.ors ++ n)) (sym (fold_nodes Operator.And f.ands t))

-- and then that of OR
pub flush_ors : (t : Tree) (f : machine.Frame) (fs : List machine.Frame) (old : List Node) → old ≡ outer_nodes fs ++ (trees_nodes f.ors ++ postfix t) → old ++ replicate (length f.ors) (Op Operator.Or) ≡ outer_nodes fs ++ postfix (machine.fold Operator.Or f.ors t)
flush_ors t f fs old e =
    let flat : (outer_nodes fs ++ (trees_nodes f.ors ++ postfix t)) ++ replicate (length f.ors) (Op Operator.Or) ≡ outer_nodes fs ++ (trees_nodes f.ors ++ (postfix t ++ replicate (length f.ors) (Op Operator.Or))) = simp append_assoc in
    ap (λ n. n ++ replicate (length f.ors) (Op Operator.Or)) e ∙ flat
    ∙ ap (λ n. outer_nodes fs ++ n) (sym (fold_nodes Operator.Or f.ors t))

-- ---- nodes, and their places

abbrev pub bare : List PlacedNode → List Node
bare nodes = map (λ (n : PlacedNode). n.0) nodes

abbrev pub places_in : List PlacedNode → List Span
places_in [] = []
places_in ((n, None) ∷ nodes) = places_in nodes
places_in ((n, Some s) ∷ nodes) = s ∷ places_in nodes

pub places_on : (xs ys : List PlacedNode) → places_in (xs ++ ys) ≡ places_in xs ++ places_in ys
places_on [] ys = refl
places_on ((n, None) ∷ xs) ys = places_on xs ys
places_on ((n, Some s) ∷ xs) ys = ap (λ (places : List Span). s ∷ places) (places_on xs ys)

pub operators_bare : (o : Operator) (n : ℕ) → bare (operators o n) ≡ replicate n (Op o)
operators_bare o zero = refl
operators_bare o (suc n) = ap (λ (ns : List Node). Op o ∷ ns) (operators_bare o n)

pub operators_places : (o : Operator) (n : ℕ) → places_in (operators o n) ≡ []
operators_places o zero = refl
operators_places o (suc n) = operators_places o n

pub with_operators : (nodes : List PlacedNode) (o : Operator) (n : ℕ) → bare (nodes ++ operators o n) ≡ bare nodes ++ replicate n (Op o)
with_operators nodes o n = map-append (λ (x : PlacedNode). x.0) nodes (operators o n) ∙ ap (λ ns. bare nodes ++ ns) (operators_bare o n)

pub same_places : (nodes : List PlacedNode) (o : Operator) (n : ℕ) → places_in (nodes ++ operators o n) ≡ places_in nodes
same_places nodes o n = places_on nodes (operators o n) ∙ ap (λ ns. places_in nodes ++ ns) (operators_places o n) ∙ append-nil (places_in nodes)

pub bare_nodes : (nodes : List ExprNode) → bare (map placed_node nodes) ≡ map node_of nodes
bare_nodes [] = refl
bare_nodes (n ∷ nodes) = ap (λ (ns : List Node). node_of n ∷ ns) (bare_nodes nodes)

pub places_nodes : (nodes : List ExprNode) → places_in (map placed_node nodes) ≡ requirement_spans nodes
places_nodes [] = refl
places_nodes (ExprNode.Op o ∷ nodes) = places_nodes nodes
places_nodes (ExprNode.Req r ∷ nodes) = ap (λ (spans : List Span). span_of r.span ∷ spans) (places_nodes nodes)
