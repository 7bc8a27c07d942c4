use Rattle.std.proofs.Common.{◌≡◌, ◌∙◌, ap, List, length, arith, subst}
use Rattle.spdx_parser.specs.declared.node.ExprNode.{ExprNode}
use Rattle.spdx_parser.specs.Tree.{leaves}
use Rattle.spdx.specs.Value.{Written, placed}
use Rattle.spdx_evaluation.specs.Requirements.{placed_in}
use Rattle.spdx_evaluation.specs.Postfix.{tree_in}
use Rattle.spdx_evaluation.proofs.Nodes.{placed_of_tree, spans_of_tree, length-placed_in}
use Rattle.spdx.proofs.expression.Expression.requirements.Goals as goal

pub returns-clause-requirements : goal.returns-clause-requirements
returns-clause-requirements c =
    let nodes = c.self.inside.nodes.items in
    ap placed_in (c.new.ensures ∙ c.as_slice.ensures)
    ∙ placed_of_tree nodes (tree_in nodes) c.self.invariant
    ∙ ap placed c.self.view_is

pub returns-clause-bound : goal.returns-clause-bound
returns-clause-bound c =
    let same : length c.new.result.rest.now ≡ length c.as_slice.result.now = ap (λ (z : List ExprNode). length z) c.new.ensures in
    omega (arith, same, length-placed_in c.new.result.rest.now)

pub returns-clause-places : goal.returns-clause-places
returns-clause-places c =
    let nodes = c.self.inside.nodes.items in
    let inside = spans_of_tree nodes (tree_in nodes) c.self.invariant in
    subst (λ (w : Written). length w.spans ≡ length (leaves w.tree)) c.self.view_is inside
