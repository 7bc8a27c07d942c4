use Rattle.std.proofs.Common.{◌∙◌, ap, map}
use Rattle.spdx_parser.specs.Nodes.{placed_node}
use Rattle.spdx_evaluation.specs.Postfix.{tree_in}
use Rattle.spdx.specs.Iterators.{placed_nodes}
use Rattle.spdx.proofs.PlacedNodes.{nodes_of_tree}
use Rattle.spdx.proofs.expression.Expression.iter.Goals as goal

pub returns : goal.returns
returns c =
    let nodes = c.self.inside.nodes.items in
    ap (map placed_node) (c.new.ensures ∙ c.as_slice.ensures)
    ∙ nodes_of_tree nodes (tree_in nodes) c.self.invariant
    ∙ ap placed_nodes c.self.view_is
