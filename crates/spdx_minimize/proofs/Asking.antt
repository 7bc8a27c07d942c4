-- What holds after some of the nodes of an expression were read, where the answers to its requirements are known.
use Rattle.std.proofs.Common.{◌≡◌, ℕ, ◌+◌, ◌-◌, ◌<◌, ◌≤◌, Bool, false, List, [], ◌∷◌, ◌++◌, length, drop, map, sym, ◌∙◌, ap, subst, arith, get_or}
use Rattle.std.proofs.lemmas.List.{append-nil, drop_more, drop_all, length-map}
use Rattle.selections.specs.Truths.{Stack, join_newest}
use Rattle.spdx_parser.specs.declared.node.Operator.{Operator}
use Rattle.spdx_parser.specs.declared.node.ExpressionReq.{ExpressionReq}
use Rattle.spdx_parser.specs.declared.node.ExprNode.{ExprNode}
use Rattle.spdx_parser.specs.Tree.{Tree, Node, Op, postfix, leaves, node_of}
use Rattle.spdx_evaluation.specs.Truth.{joined, truth_of}
use Rattle.spdx_evaluation.specs.Requirements.{requirements_in}
use Rattle.spdx_evaluation.proofs.Nodes.{requirement_at, requirements_of_tree}
use Rattle.spdx_evaluation.proofs.Machine.{stack_behind, LeavesOne, length-join_newest, stack_behind_postfix, leaves_one_postfix}

-- after i nodes, of which `leaf` are requirements: what the stack is worth, and what is still needed
pub record Asking (nodes : List ExprNode) (i : ℕ) (answers : List Bool) (leaf : ℕ) (s : Stack) : Type 0 where
  pub same : stack_behind (map node_of nodes) answers [] ≡ stack_behind (map node_of (drop i nodes)) (drop leaf answers) s.items
  pub left : leaf + length (requirements_in (drop i nodes)) ≡ length answers
  pub enough : LeavesOne (map node_of (drop i nodes)) (length s.items)
  pub room : length s.items + (length nodes - i) ≤ s.room

-- as many as the tree has leaves
pub each_leaf : (nodes : List ExprNode) (t : Tree) → map node_of nodes ≡ postfix t → length (requirements_in nodes) ≡ length (leaves t)
each_leaf nodes t e = sym (length-map (requirements_in nodes) requirement_at) ∙ ap length (requirements_of_tree nodes t e)

pub begins : (nodes : List ExprNode) (answers : List Bool) (s : Stack) (t : Tree) → map node_of nodes ≡ postfix t → length answers ≡ length (leaves t) → s.items ≡ [] → length nodes ≤ s.room → Asking nodes 0 answers 0 s
begins nodes answers s t e each empty room = record {
  same = ap (stack_behind (map node_of nodes) answers) (sym empty);
  left = omega (arith, each_leaf nodes t e, each);
  enough =
      let n : 0 ≡ length s.items = sym (ap length empty) in
      let all : postfix t ++ [] ≡ map node_of nodes = append-nil (postfix t) ∙ sym e in
      subst (λ (z : List Node). LeavesOne z (length s.items)) all (leaves_one_postfix t [] (length s.items) (omega arith));
  room = omega (arith, ap length empty);
}

-- the nodes from i on, where i holds n
nodes_from : (nodes : List ExprNode) (i : ℕ) (d n : ExprNode) → i < length nodes → get_or nodes i d ≡ n → drop i nodes ≡ n ∷ drop (i + 1) nodes
nodes_from nodes i d n lt is = drop_more nodes i d lt ∙ ap (λ (z : ExprNode). z ∷ drop (i + 1) nodes) is

-- a requirement has its answer
pub leaf_there : (nodes : List ExprNode) (i : ℕ) (answers : List Bool) (leaf : ℕ) (s : Stack) (d : ExprNode) (r : ExpressionReq) → Asking nodes i answers leaf s → i < length nodes → get_or nodes i d ≡ ExprNode.Req r → leaf < length answers
leaf_there nodes i answers leaf s d r v lt is = omega (arith, v.left, ap (λ (z : List ExprNode). length (requirements_in z)) (nodes_from nodes i d (ExprNode.Req r) lt is))

pub reads_requirement : (nodes : List ExprNode) (i : ℕ) (answers : List Bool) (leaf : ℕ) (s : Stack) (d : ExprNode) (r : ExpressionReq) (new : Stack)
    → Asking nodes i answers leaf s → i < length nodes → get_or nodes i d ≡ ExprNode.Req r → new.items ≡ get_or answers leaf false ∷ s.items → new.room ≡ s.room → Asking nodes (i + 1) answers (leaf + 1) new
reads_requirement nodes i answers leaf s d r new v lt is items room =
    let tail = nodes_from nodes i d (ExprNode.Req r) lt is in
    let there = leaf_there nodes i answers leaf s d r v lt is in
    let one_more : length new.items ≡ length s.items + 1 = omega (arith, ap length items) in
    record {
      same =
          v.same
          ∙ ap (λ (z : List ExprNode). stack_behind (map node_of z) (drop leaf answers) s.items) tail
          ∙ ap (λ (z : List Bool). stack_behind (map node_of (ExprNode.Req r ∷ drop (i + 1) nodes)) z s.items) (drop_more answers leaf false there)
          ∙ ap (λ (z : List Bool). stack_behind (map node_of (drop (i + 1) nodes)) (drop (leaf + 1) answers) z) (sym items);
      left = omega (arith, v.left, ap (λ (z : List ExprNode). length (requirements_in z)) tail);
      enough =
          let before : LeavesOne (map node_of (ExprNode.Req r ∷ drop (i + 1) nodes)) (length s.items) = subst (λ (z : List ExprNode). LeavesOne (map node_of z) (length s.items)) tail v.enough in
          subst (λ (n : ℕ). LeavesOne (map node_of (drop (i + 1) nodes)) n) (sym one_more) before;
      room = omega (arith, v.room, one_more, room);
    }

-- at an operator there are two truths
pub two_there : (nodes : List ExprNode) (i : ℕ) (answers : List Bool) (leaf : ℕ) (s : Stack) (d : ExprNode) (o : Operator)
    → Asking nodes i answers leaf s → i < length nodes → get_or nodes i d ≡ ExprNode.Op o → 2 ≤ length s.items
two_there nodes i answers leaf s d o v lt is =
    let before : LeavesOne (Op o ∷ map node_of (drop (i + 1) nodes)) (length s.items) = subst (λ (z : List ExprNode). LeavesOne (map node_of z) (length s.items)) (nodes_from nodes i d (ExprNode.Op o) lt is) v.enough in
    before.0

pub reads_operator : (nodes : List ExprNode) (i : ℕ) (answers : List Bool) (leaf : ℕ) (s : Stack) (d : ExprNode) (o : Operator) (new : Stack)
    → Asking nodes i answers leaf s → i < length nodes → get_or nodes i d ≡ ExprNode.Op o → new.items ≡ join_newest (joined o) s.items → new.room ≡ s.room → Asking nodes (i + 1) answers leaf new
reads_operator nodes i answers leaf s d o new v lt is items room =
    let tail = nodes_from nodes i d (ExprNode.Op o) lt is in
    let before : LeavesOne (Op o ∷ map node_of (drop (i + 1) nodes)) (length s.items) = subst (λ (z : List ExprNode). LeavesOne (map node_of z) (length s.items)) tail v.enough in
    let one_less : length new.items ≡ length s.items - 1 = ap length items ∙ length-join_newest (joined o) s.items before.0 in
    record {
      same =
          v.same
          ∙ ap (λ (z : List ExprNode). stack_behind (map node_of z) (drop leaf answers) s.items) tail
          ∙ ap (λ (z : List Bool). stack_behind (map node_of (drop (i + 1) nodes)) (drop leaf answers) z) (sym items);
      left = omega (arith, v.left, ap (λ (z : List ExprNode). length (requirements_in z)) tail);
      enough = subst (λ (n : ℕ). LeavesOne (map node_of (drop (i + 1) nodes)) n) (sym one_less) before.1;
      room = omega (arith, v.room, one_less, room);
    }

-- no node is left
none_left : (nodes : List ExprNode) (i : ℕ) → length nodes ≤ i → map node_of (drop i nodes) ≡ []
none_left nodes i le = ap (λ (z : List ExprNode). map node_of z) (drop_all i nodes le)

pub one_left : (nodes : List ExprNode) (i : ℕ) (answers : List Bool) (leaf : ℕ) (s : Stack) → Asking nodes i answers leaf s → length nodes ≤ i → length s.items ≡ 1
one_left nodes i answers leaf s v le = subst (λ (z : List Node). LeavesOne z (length s.items)) (none_left nodes i le) v.enough

-- the truth that is left is that of the tree
pub finishes : (nodes : List ExprNode) (i : ℕ) (answers : List Bool) (leaf : ℕ) (s : Stack) (truth : Bool) (rest : List Bool) (t : Tree)
    → Asking nodes i answers leaf s → length nodes ≤ i → s.items ≡ truth ∷ rest → map node_of nodes ≡ postfix t → length answers ≡ length (leaves t) → truth ≡ truth_of t answers
finishes nodes i answers leaf s truth rest t v le items tree each =
    let there : stack_behind (map node_of nodes) answers [] ≡ truth ∷ rest = v.same ∙ ap (λ (z : List Node). stack_behind z (drop leaf answers) s.items) (none_left nodes i le) ∙ items in
    let here : stack_behind (map node_of nodes) answers [] ≡ truth_of t answers ∷ [] =
    ap (λ (z : List Node). stack_behind z answers []) (tree ∙ sym (append-nil (postfix t)))
    ∙ ap (λ (z : List Bool). stack_behind (postfix t ++ []) z []) (sym (append-nil answers))
    ∙ stack_behind_postfix t answers [] [] [] each in
    let both : truth ∷ rest ≡ truth_of t answers ∷ [] = sym there ∙ here in
    cc
