use Rattle.std.proofs.Common.{rules, sym, ◌∙◌, ap, ◌≡◌, List, [], ◌++◌, drop, map}
use Rattle.std.proofs.lemmas.List.{append-nil, drop_all}
use Rattle.spdx_requirement.specs.Items.{requirement_of}
use Rattle.spdx_parser.specs.declared.node.ExprNode.{ExprNode}
use Rattle.spdx_evaluation.specs.Postfix.{tree_in}
use Rattle.spdx_evaluation.specs.Requirements.{requirements_in}
use Rattle.spdx_evaluation.proofs.Nodes.{requirement_at, requirements_of_tree}
use Rattle.spdx_meaning.proofs.comparison.apart.copies_of.Goals as goal

pub returns : goal.returns
returns c =
    let nodes = c.args.nodes.now in
    let all = map requirement_of c.loop-node.copies.items in
    let none : drop c.loop-node.node-index nodes ≡ [] = drop_all c.loop-node.node-index nodes (search rules) in
    sym (append-nil all)
    ∙ ap (λ (z : List ExprNode). all ++ map requirement_at (requirements_in z)) (sym none)
    ∙ c.loop-node.invariant
    ∙ requirements_of_tree nodes (tree_in nodes) c.requires
