-- The truth of a tree over answers to its requirements.
use Rattle.std.specs.Prelude.{Bool, false, ◌&&◌, ◌||◌, List, length, take, drop, map, slice_index_or}
use Rattle.spdx_requirement.specs.Items.{Requirement}
use Rattle.spdx_parser.specs.declared.node.Operator.{Operator}
use Rattle.spdx_parser.specs.declared.node.Operator.TheVariants.{And, Or}
use Rattle.spdx_parser.specs.Tree.{Tree, Leaf, Join, leaves}

-- what an operator makes of the truths of its two operands
abbrev pub joined : Operator → Bool → Bool → Bool
joined And left right = left && right
joined Or left right = left || right

-- a requirement has its answer; of an operator the left operand takes as many answers as it has
-- requirements
abbrev pub truth_of : Tree → List Bool → Bool
truth_of (Leaf r) answers = slice_index_or answers 0 false
truth_of (Join o l r) answers =
    joined o (truth_of l (take (length (leaves l)) answers))
    (truth_of r (drop (length (leaves l)) answers))

-- whether the tree is true where each requirement has its answer
abbrev pub holds : (Requirement → Bool) → Tree → Bool
holds answer t = truth_of t (map answer (leaves t))
