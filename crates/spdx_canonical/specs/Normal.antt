-- The normal text of a tree: its requirements as they print, its operators in capitals, and
-- parentheses where the tree needs them.
use Rattle.std.specs.Prelude.{ℕ, Bool, true, false, List, ◌++◌, codes}
use Rattle.spdx_requirement.specs.Texts.{requirement_text}
use Rattle.spdx_parser.specs.declared.node.Operator.{Operator}
use Rattle.spdx_parser.specs.declared.node.Operator.TheVariants.{And, Or}
use Rattle.spdx_parser.specs.Tree.{Tree, Leaf, Join, Node, Op, Req}

-- a requirement alone, or the operator that joins all the rest
abbrev pub root : Tree → Node
root (Leaf r) = Req r
root (Join o l r) = Op o

abbrev pub is_or : Node → Bool
is_or (Op Or) = true
is_or (Op And) = false
is_or (Req r) = false

-- whether an operand with this root has parentheses there: AND binds tighter, and chains of one
-- operator lean right
abbrev pub left_in_parens : Operator → Node → Bool
left_in_parens And (Req r) = false
left_in_parens And (Op o) = true
left_in_parens Or n = is_or n

abbrev pub right_in_parens : Operator → Node → Bool
right_in_parens And n = is_or n
right_in_parens Or n = false

abbrev pub in_parens_if : Bool → List ℕ → List ℕ
in_parens_if true text = codes "(" ++ (text ++ codes ")")
in_parens_if false text = text

abbrev pub operator_text : Operator → List ℕ
operator_text And = codes " AND "
operator_text Or = codes " OR "

abbrev pub normal_text : Tree → List ℕ
normal_text (Leaf r) = requirement_text r
normal_text (Join o l r) =
    in_parens_if (left_in_parens o (root l)) (normal_text l)
    ++ (operator_text o ++ in_parens_if (right_in_parens o (root r)) (normal_text r))
