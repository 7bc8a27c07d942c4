use Rattle.std.proofs.Common.{rules, sym, ◌∙◌, ap, ◌≡◌, List, [], ◌++◌, drop, map}
use Rattle.std.proofs.lemmas.List.{append-nil, drop_all}
use Rattle.spdx_requirement.specs.Items.{Requirement}
use Rattle.spdx_parser.specs.declared.node.ExprNode.{ExprNode}
use Rattle.spdx_parser.specs.Tree.{leaves}
use Rattle.spdx_evaluation.specs.Postfix.{tree_in}
use Rattle.spdx_evaluation.specs.Requirements.{requirements_in}
use Rattle.spdx_evaluation.proofs.Nodes.{requirement_at, requirements_of_tree}
use Rattle.spdx_why.specs.Least.{first_candidate}
use Rattle.spdx_why.specs.Serving.{lists_in, alone}
use Rattle.spdx_why.proofs.firsts.first_candidates.Goals as goal

pub returns : goal.returns
returns c =
    let nodes = c.args.nodes.now in
    let t = tree_in nodes in
    let first = first_candidate (leaves t) c.args.candidates.now in
    let so_far = lists_in c.loop-node.serving.items in
    let none : drop c.loop-node.node-index nodes ≡ [] = drop_all c.loop-node.node-index nodes (search rules) in
    sym (append-nil so_far)
    ∙ ap (λ (z : List ExprNode). so_far ++ map alone (map first (map requirement_at (requirements_in z)))) (sym none)
    ∙ c.loop-node.invariant
    ∙ ap (λ (z : List Requirement). map alone (map first z)) (requirements_of_tree nodes t c.requires.tree)
