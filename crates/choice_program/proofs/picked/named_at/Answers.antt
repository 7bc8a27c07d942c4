use Rattle.std.proofs.Common.{rules, sym, ◌∙◌, ap, ◌≡◌, List, [], ◌++◌, drop, map}
use Rattle.std.proofs.lemmas.List.{append-nil, drop_all}
use Rattle.spdx_requirement.specs.Items.{Requirement}
use Rattle.spdx_parser.specs.declared.node.ExprNode.{ExprNode}
use Rattle.spdx_evaluation.specs.Postfix.{tree_in}
use Rattle.spdx_evaluation.specs.Requirements.{requirements_in}
use Rattle.spdx_evaluation.proofs.Nodes.{requirement_at, requirements_of_tree}
use Rattle.choice_program.specs.Named.{named, shown}
use Rattle.choice_program.specs.Picked.{numbered}
use Rattle.choice_program.proofs.picked.named_at.Goals as goal

pub returns : goal.returns
returns c =
    let nodes = c.args.nodes.now in
    let numbers = c.args.numbers.now in
    let so_far = map shown c.loop-node.all.items in
    let none : drop c.loop-node.node-index nodes ≡ [] = drop_all c.loop-node.node-index nodes (search rules) in
    sym (append-nil so_far)
    ∙ ap (λ (z : List ExprNode). so_far ++ map named (numbered numbers c.loop-node.number (map requirement_at (requirements_in z)))) (sym none)
    ∙ c.loop-node.invariant.so_far
    ∙ ap (λ (z : List Requirement). map named (numbered numbers 0 z)) (requirements_of_tree nodes (tree_in nodes) c.requires)
