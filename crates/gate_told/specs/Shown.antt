-- The parts of an expression, as they are shown: what is joined behind what joins it, from left to
-- right.
use Rattle.std.specs.Prelude.{◌≡◌, ℕ, Bool, false, List, [], ◌∷◌, ◌++◌, length, map, take, drop, suc}
use Rattle.gate_forms.specs.declared.reports.Leaf.{Leaf}
use Rattle.gate_forms.specs.declared.reports.Node.{Node}
use Rattle.gate_forms.specs.declared.reports.Part.{Part}
use Rattle.gate_forms.specs.declared.reports.Part.TheVariants as part
use Rattle.gate_forms.specs.Report.{is_accepted, is_part_accepted}
use Rattle.spdx_parser.specs.declared.node.ExprNode.{ExprNode}
use Rattle.spdx_parser.specs.declared.node.Operator.{Operator}
use Rattle.spdx_parser.specs.declared.node.Operator.TheVariants.{And, Or}
use Rattle.spdx_parser.specs.Tree as tree
use Rattle.spdx_parser.specs.Tree.{Tree, leaves, node_of, postfix}
use Rattle.spdx_evaluation.specs.Truth.{truth_of}

abbrev pub is_leaf_accepted : Leaf → Bool
is_leaf_accepted x = is_accepted x.mark

-- whether a tree is accepted, of which these are the leaves: AND where both operands are, OR where
-- one is
abbrev pub is_tree_accepted : Tree → List Leaf → Bool
is_tree_accepted t xs = truth_of t (map is_leaf_accepted xs)

-- a leaf, in so many parts
abbrev pub leaf_node : ℕ → Leaf → Node
leaf_node depth x = record { depth = depth; part = part.License x }

abbrev pub operator_part : Operator → Bool → Part
operator_part And accepted = part.And accepted
operator_part Or accepted = part.Or accepted

-- an operator, in so many parts, and whether what it joins is accepted
abbrev pub operator_node : ℕ → Operator → Bool → Node
operator_node depth o accepted = record { depth = depth; part = operator_part o accepted }

-- The parts of a tree that stands in so many parts: an operator before its operands, the left one
-- before the right one. The leaves are those of its requirements, from left to right.
abbrev pub shown_parts : Tree → List Leaf → ℕ → List Node
shown_parts (tree.Leaf r) xs depth = map (leaf_node depth) xs
shown_parts (tree.Join o l r) xs depth =
    operator_node depth o (is_tree_accepted (tree.Join o l r) xs)
    ∷ (shown_parts l (take (length (leaves l)) xs) (suc depth) ++
    shown_parts r (drop (length (leaves l)) xs) (suc depth))

-- the nodes are the tree's, and each of its requirements has a leaf
pub record AreOf (t : Tree) (nodes : List ExprNode) (xs : List Leaf) : Type 0 where
  pub nodes_are : map node_of nodes ≡ postfix t
  pub each : length xs ≡ length (leaves t)

-- whether the first of some parts is accepted
abbrev pub is_first_accepted : List Node → Bool
is_first_accepted [] = false
is_first_accepted (n ∷ ns) = is_part_accepted n.part
