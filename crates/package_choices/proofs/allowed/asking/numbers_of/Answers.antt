use Rattle.std.proofs.Common.{rules, sym, ◌∙◌, ap, ◌≡◌, List, [], ◌++◌, drop, map}
use Rattle.std.proofs.lemmas.List.{append-nil, drop_all}
use Rattle.spdx_requirement.specs.Items.{Requirement}
use Rattle.spdx_parser.specs.declared.node.ExprNode.{ExprNode}
use Rattle.spdx_evaluation.specs.Postfix.{tree_in}
use Rattle.spdx_evaluation.specs.Requirements.{requirements_in}
use Rattle.spdx_evaluation.proofs.Nodes.{requirement_at, requirements_of_tree}
use Rattle.package_choices.specs.Choice.{number_of}
use Rattle.package_choices.specs.Members.{shown}
use Rattle.package_choices.proofs.allowed.asking.numbers_of.Goals as goal

pub returns : goal.returns
returns c =
    let nodes = c.args.nodes.now in
    let number = number_of (shown c.args.members.now) in
    let none : drop c.loop-node.node-index nodes ≡ [] = drop_all c.loop-node.node-index nodes (search rules) in
    sym (append-nil c.loop-node.numbers.items)
    ∙ ap (λ (z : List ExprNode). c.loop-node.numbers.items ++ map number (map requirement_at (requirements_in z))) (sym none)
    ∙ c.loop-node.invariant
    ∙ ap (λ (z : List Requirement). map number z) (requirements_of_tree nodes (tree_in nodes) c.requires)
