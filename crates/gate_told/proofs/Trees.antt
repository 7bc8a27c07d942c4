-- What reading all nodes of a tree comes to.
use Rattle.std.proofs.Common.{◌≡◌, ℕ, Bool, List, [], ◌∷◌, ◌++◌, length, map, take, drop, suc, refl, sym, ap, ◌∙◌, arith, append_assoc, length-append, length-drop}
use Rattle.std.specs.Prelude.{reverse}
use Rattle.std.proofs.lemmas.List.{append-nil, reverse-append, take-append-drop, take-map, drop-map, length-map, length-take}
use Rattle.gate_forms.specs.declared.reports.Leaf.{Leaf}
use Rattle.gate_forms.specs.declared.reports.Node.{Node}
use Rattle.gate_forms.specs.Report.{is_part_accepted}
use Rattle.spdx_parser.specs.declared.node.ExprNode.{ExprNode}
use Rattle.spdx_parser.specs.declared.node.Operator.{Operator}
use Rattle.spdx_parser.specs.declared.node.Operator.TheVariants.{And, Or}
use Rattle.spdx_parser.specs.Tree as tree
use Rattle.spdx_parser.specs.Tree.{Tree, leaves, node_of, postfix}
use Rattle.spdx_evaluation.specs.Truth.{joined}
use Rattle.gate_told.specs.declared.tree.reading.Waiting.{Waiting}
use Rattle.gate_told.specs.declared.tree.reading.Waiting.TheVariants.{Both, Left}
use Rattle.gate_told.specs.Shown.{AreOf, is_first_accepted, is_tree_accepted, leaf_node, operator_node, operator_part, shown_parts}
use Rattle.gate_told.specs.Reading.{State, state, start, ended, read_node, read_back}

pub read_back-append : (ns more : List tree.Node) (s : State) → read_back (ns ++ more) s ≡ read_back ns (read_back more s)
read_back-append [] more s = refl
read_back-append (n ∷ ns) more s = ap (read_node n) (read_back-append ns more s)

-- the leaves of two operands, the last one first
split : (k : ℕ) (xs more : List Leaf) → reverse xs ++ more ≡ reverse (drop k xs) ++ (reverse (take k xs) ++ more)
split k xs more =
    ap (λ (ys : List Leaf). reverse ys ++ more) (sym (take-append-drop k xs))
    ∙ ap (λ (ys : List Leaf). ys ++ more) (reverse-append (take k xs) (drop k xs))
    ∙ append_assoc (reverse (drop k xs)) (reverse (take k xs)) more

left_len : (l r : Tree) (xs : List Leaf) → length xs ≡ length (leaves l ++ leaves r) → length (take (length (leaves l)) xs) ≡ length (leaves l)
left_len l r xs e = omega (arith, length-take (length (leaves l)) xs, length-append (leaves l) (leaves r))

right_len : (l r : Tree) (xs : List Leaf) → length xs ≡ length (leaves l ++ leaves r) → length (drop (length (leaves l)) xs) ≡ length (leaves r)
right_len l r xs e = omega (arith, length-drop (length (leaves l)) xs, length-append (leaves l) (leaves r))

joined_truth : (o : Operator) (l r : Tree) (xs : List Leaf) → joined o (is_tree_accepted l (take (length (leaves l)) xs)) (is_tree_accepted r (drop (length (leaves l)) xs)) ≡ is_tree_accepted (tree.Join o l r) xs
joined_truth o l r xs = simp (take-map, drop-map)

-- reading a tree's nodes comes to its parts, and ends an operand
pub read_tree : (t : Tree) (xs more : List Leaf) (ws : List Waiting) (ns : List Node) → length xs ≡ length (leaves t)
    → read_back (postfix t) (state (reverse xs ++ more) ws ns) ≡ ended more (is_tree_accepted t xs) ws (shown_parts t xs (length ws) ++ ns)
read_tree (tree.Leaf r) [] more ws ns e = absurd (omega arith)
read_tree (tree.Leaf r) (x ∷ []) more ws ns e = refl
read_tree (tree.Leaf r) (x ∷ y ∷ zs) more ws ns e = absurd (omega arith)
read_tree (tree.Join o l r) xs more ws ns e =
    let a = take (length (leaves l)) xs in
    let b = drop (length (leaves l)) xs in
    let depth = suc (length ws) in
    let s = state (reverse xs ++ more) ws ns in
    read_back-append (postfix l) (postfix r ++ tree.Op o ∷ []) s
    ∙ ap (read_back (postfix l)) (read_back-append (postfix r) (tree.Op o ∷ []) s
    ∙ ap (λ (ys : List Leaf). read_back (postfix r) (state ys (Both o ∷ ws) ns)) (split (length (leaves l)) xs more)
    ∙ read_tree r b (reverse a ++ more) (Both o ∷ ws) ns (right_len l r xs e))
    ∙ read_tree l a more (Left o (is_tree_accepted r b) ∷ ws) (shown_parts r b depth ++ ns) (left_len l r xs e)
    ∙ ap (λ (c : Bool). ended more c ws (operator_node (length ws) o c ∷ (shown_parts l a depth ++ (shown_parts r b depth ++ ns)))) (joined_truth o l r xs)
    ∙ ap (λ (ms : List Node). ended more (is_tree_accepted (tree.Join o l r) xs) ws (operator_node (length ws) o (is_tree_accepted (tree.Join o l r) xs) ∷ ms))
    (sym (append_assoc (shown_parts l a depth) (shown_parts r b depth) ns))

pub shown : (t : Tree) (nodes : List ExprNode) (xs : List Leaf) → AreOf t nodes xs → (read_back (map node_of nodes) (start xs)).parts ≡ shown_parts t xs 0
shown t nodes xs a =
    ap (λ (ns : List tree.Node). (read_back ns (start xs)).parts) a.nodes_are
    ∙ ap (λ (ys : List Leaf). (read_back (postfix t) (state ys [] [])).parts) (sym (append-nil (reverse xs)))
    ∙ ap (λ (s : State). s.parts) (read_tree t xs [] [] [] a.each)
    ∙ append-nil (shown_parts t xs 0)

count : (t : Tree) (xs : List Leaf) (depth : ℕ) → length xs ≡ length (leaves t) → length (shown_parts t xs depth) ≡ length (postfix t)
count (tree.Leaf r) xs depth e = length-map xs (leaf_node depth) ∙ e
count (tree.Join o l r) xs depth e =
    let a = take (length (leaves l)) xs in
    let b = drop (length (leaves l)) xs in
    let el = count l a (suc depth) (left_len l r xs e) in
    let er = count r b (suc depth) (right_len l r xs e) in
    omega (arith, length-append (shown_parts l a (suc depth)) (shown_parts r b (suc depth)), length-append (postfix l) (postfix r ++ tree.Op o ∷ []), length-append (postfix r) (tree.Op o ∷ []))

-- each node has a part
pub counted : (t : Tree) (nodes : List ExprNode) (xs : List Leaf) → AreOf t nodes xs → length (shown_parts t xs 0) ≡ length nodes
counted t nodes xs a = count t xs 0 a.each ∙ ap length (sym a.nodes_are) ∙ length-map nodes node_of

operator_truth : (o : Operator) (b : Bool) → is_part_accepted (operator_part o b) ≡ b
operator_truth And b = refl
operator_truth Or b = refl

-- the first part is accepted where the tree is
pub first : (t : Tree) (xs : List Leaf) → length xs ≡ length (leaves t) → is_first_accepted (shown_parts t xs 0) ≡ is_tree_accepted t xs
first (tree.Leaf r) [] e = refl
first (tree.Leaf r) (x ∷ xs) e = refl
first (tree.Join o l r) xs e = operator_truth o (is_tree_accepted (tree.Join o l r) xs)
