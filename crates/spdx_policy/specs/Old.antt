-- Nodes that are one requirement.
use Rattle.std.specs.Prelude.{◌≡◌, false, List, [], ◌∷◌, map}
use Rattle.spdx_requirement.specs.Items.{Requirement}
use Rattle.spdx_parser.specs.declared.node.ExprNode.{ExprNode}
use Rattle.spdx_parser.specs.Tree.{Req, node_of}
use Rattle.spdx_policy.specs.Meant.{is_marked}

-- the nodes are one requirement without a mark
pub record IsOneUnmarked (nodes : List ExprNode) (r : Requirement) : Type 0 where
  pub nodes_are : map node_of nodes ≡ Req r ∷ []
  pub unmarked : is_marked r.license ≡ false
