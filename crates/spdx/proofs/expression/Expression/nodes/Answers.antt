use Rattle.std.proofs.Common.{◌∙◌, ap}
use Rattle.spdx.specs.Value.{placed}
use Rattle.spdx_evaluation.specs.Requirements.{placed_in}
use Rattle.spdx_evaluation.specs.Postfix.{tree_in}
use Rattle.spdx_evaluation.proofs.Nodes.{placed_of_tree}
use Rattle.spdx.proofs.expression.Expression.nodes.Goals as goal

pub returns-clause-placed : goal.returns-clause-placed
returns-clause-placed c =
    let nodes = c.self.inside.nodes.items in
    ap placed_in c.as_slice.ensures
    ∙ placed_of_tree nodes (tree_in nodes) c.self.invariant
    ∙ ap placed c.self.view_is
