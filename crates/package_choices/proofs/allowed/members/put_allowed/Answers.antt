use Rattle.std.proofs.Common.{rules, arith, sym, ◌∙◌, ap, refl, ◌≡◌, List, [], drop, map}
use Rattle.std.proofs.lemmas.List.{drop_all}
use Rattle.spdx_requirement.specs.Items.{Requirement}
use Rattle.spdx_parser.specs.declared.node.ExprNode.{ExprNode}
use Rattle.spdx_evaluation.specs.Postfix.{tree_in}
use Rattle.spdx_evaluation.specs.Requirements.{requirements_in}
use Rattle.spdx_evaluation.proofs.Nodes.{requirement_at, requirements_of_tree}
use Rattle.spdx_minimize.specs.Choice.{chosen_of}
use Rattle.spdx_minimize.proofs.Asking.{each_leaf}
use Rattle.package_choices.specs.Members.{shown, grown}
use Rattle.package_choices.proofs.allowed.members.put_allowed.Goals as goal

pub loop-node-init : goal.loop-node-init
loop-node-init c =
    let o = c.args.offer.now in
    record {
      so_far = refl;
      left = omega (arith, each_leaf o.nodes.now (tree_in o.nodes.now) o.postfix, o.each);
    }

pub returns : goal.returns
returns c =
    let o = c.args.offer.now in
    let nodes = o.nodes.now in
    let none : drop c.loop-node.node-index nodes ≡ [] = drop_all c.loop-node.node-index nodes (search rules) in
    let members = shown c.loop-node.members.items in
    sym (ap (λ (z : List ExprNode). grown members (chosen_of (map requirement_at (requirements_in z)) (drop c.loop-node.number o.allowed.items))) none)
    ∙ c.loop-node.invariant.so_far
    ∙ ap (λ (z : List Requirement). grown (shown c.args.members.now.items) (chosen_of z o.allowed.items)) (requirements_of_tree nodes (tree_in nodes) o.postfix)
