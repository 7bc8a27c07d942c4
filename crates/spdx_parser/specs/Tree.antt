-- What an expression means: a tree, and its postfix form.
use Rattle.std.specs.Prelude.{List, [], ◌∷◌, ◌++◌}
use Rattle.spdx_requirement.specs.Items.{Requirement, requirement_of}
use Rattle.spdx_requirement.specs.Keys.{RequirementKey, requirement_key}
use Rattle.spdx_parser.specs.declared.node.Operator.{Operator}
use Rattle.spdx_parser.specs.declared.node.ExprNode.{ExprNode}

-- a requirement, or two trees joined by an operator
pub data Tree : Type 0 where
  Leaf : Requirement → Tree
  Join : Operator → Tree → Tree → Tree

-- a node of the postfix form, places in a text aside
pub data Node : Type 0 where
  Op : Operator → Node
  Req : Requirement → Node

-- the left operand, the right operand, the operator
abbrev pub postfix : Tree → List Node
postfix (Leaf r) = Req r ∷ []
postfix (Join o l r) = postfix l ++ (postfix r ++ Op o ∷ [])

-- the requirements, from left to right
abbrev pub leaves : Tree → List Requirement
leaves (Leaf r) = r ∷ []
leaves (Join o l r) = leaves l ++ leaves r

-- a node of the code, its place aside
abbrev pub node_of : ExprNode → Node
node_of (ExprNode.Op o) = Op o
node_of (ExprNode.Req r) = Req (requirement_of r.req)

-- what equality sees of a node: of a listed row its index, and no place in a text
pub data NodeKey : Type 0 where
  operator : Operator → NodeKey
  requirement : RequirementKey → NodeKey

abbrev pub node_key : Node → NodeKey
node_key (Op o) = operator o
node_key (Req r) = requirement (requirement_key r)
