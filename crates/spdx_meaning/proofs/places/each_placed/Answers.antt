use Rattle.std.proofs.Common.{rules, sym, ◌∙◌, ap, ◌≡◌, List, [], ◌++◌, drop, length, map}
use Rattle.std.proofs.lemmas.List.{append-nil, drop_all}
use Rattle.spdx_requirement.specs.Items.{Requirement}
use Rattle.spdx_parser.specs.declared.node.ExprNode.{ExprNode}
use Rattle.spdx_evaluation.specs.Postfix.{tree_in}
use Rattle.spdx_evaluation.specs.Requirements.{requirements_in}
use Rattle.spdx_evaluation.proofs.Nodes.{requirement_at, requirements_of_tree}
use Rattle.spdx_meaning.specs.Placed.{numbered, entry_of}
use Rattle.spdx_meaning.proofs.places.each_placed.Goals as goal

pub returns : goal.returns
returns c =
    let nodes = c.args.nodes.now in
    let placed = c.loop-node.placed.items in
    let none : drop c.loop-node.node-index nodes ≡ [] = drop_all c.loop-node.node-index nodes (search rules) in
    sym (append-nil (map entry_of placed))
    ∙ ap (λ (z : List ExprNode). map entry_of placed ++ numbered (length placed) (map requirement_at (requirements_in z))) (sym none)
    ∙ c.loop-node.invariant
    ∙ ap (λ (z : List Requirement). numbered 0 z) (requirements_of_tree nodes (tree_in nodes) c.requires)
