use Rattle.std.proofs.Common.{rules, sym, ◌∙◌, ap, ◌≡◌, List, [], ◌++◌, drop, map}
use Rattle.std.proofs.lemmas.List.{append-nil, drop_all}
use Rattle.spdx_requirement.specs.Items.{Requirement}
use Rattle.spdx_parser.specs.declared.node.ExprNode.{ExprNode}
use Rattle.spdx_parser.specs.Tree.{leaves}
use Rattle.spdx_evaluation.specs.Postfix.{tree_in}
use Rattle.spdx_evaluation.specs.Requirements.{requirements_in}
use Rattle.spdx_evaluation.proofs.Nodes.{requirement_at, requirements_of_tree}
use Rattle.spdx_meaning.specs.Places.{place_in}
use Rattle.spdx_meaning.proofs.places.places_among.Goals as goal

pub returns : goal.returns
returns c =
    let others = c.args.others.now in
    let place = place_in (leaves (tree_in c.args.nodes.now)) in
    let none : drop c.loop-node.node-index others ≡ [] = drop_all c.loop-node.node-index others (search rules) in
    sym (append-nil c.loop-node.places.items)
    ∙ ap (λ (z : List ExprNode). c.loop-node.places.items ++ map place (map requirement_at (requirements_in z))) (sym none)
    ∙ c.loop-node.invariant
    ∙ ap (λ (z : List Requirement). map place z) (requirements_of_tree others (tree_in others) c.requires.other)
