-- Equality of trees, whose rows are told apart by their index alone.
use Rattle.std.specs.Prelude.{Bool, true, false, ◌&&◌}
use Rattle.spdx_requirement.specs.Keys.{RequirementKey, requirement_key}
use Rattle.spdx_requirement.specs.Equality.{same_requirement}
use Rattle.spdx_parser.specs.declared.node.Operator.{Operator}
use Rattle.spdx_parser.specs.declared.node.Operator.TheVariants.{And, Or}
use Rattle.spdx_parser.specs.Tree.{Tree, Leaf, Join, Node, Op, Req}

abbrev pub same_operator : Operator → Operator → Bool
same_operator And And = true
same_operator Or Or = true
same_operator And Or = false
same_operator Or And = false

abbrev pub same_node : Node → Node → Bool
same_node (Op o) (Op p) = same_operator o p
same_node (Req r) (Req s) = same_requirement r s
same_node (Op o) (Req s) = false
same_node (Req r) (Op p) = false

-- one shape, with the same operators and the same requirements
abbrev pub same_tree : Tree → Tree → Bool
same_tree (Leaf r) (Leaf s) = same_requirement r s
same_tree (Join o l r) (Join p t u) = same_operator o p && (same_tree l t && same_tree r u)
same_tree (Leaf r) (Join p t u) = false
same_tree (Join o l r) (Leaf s) = false

-- What equality sees of a tree: its shape, its operators and the keys of its requirements, in which
-- a row is its index.
pub data TreeKey : Type 0 where
  leaf_key : RequirementKey → TreeKey
  join_key : Operator → TreeKey → TreeKey → TreeKey

abbrev pub tree_key : Tree → TreeKey
tree_key (Leaf r) = leaf_key (requirement_key r)
tree_key (Join o l r) = join_key o (tree_key l) (tree_key r)
