use Rattle.std.proofs.Common.{rules, ◌∙◌, sym, ap, List}
use Rattle.std.specs.List.{list_any}
use Rattle.std.proofs.lemmas.List.{drop_all}
use Rattle.spdx_requirement.specs.Items.{requirement_of}
use Rattle.spdx_licensee.specs.Satisfies.{satisfies}
use Rattle.spdx_parser.specs.declared.node.ExprNode.{ExprNode}
use Rattle.spdx_evaluation.specs.Postfix.{tree_in}
use Rattle.spdx_evaluation.specs.Requirements.{requirements_in}
use Rattle.spdx_minimize.proofs.Chosen.{any_in_tree, found_at}
use Rattle.spdx_minimize.proofs.useful.satisfies_one.Goals as goal

pub returns-in-loop-node : goal.returns-in-loop-node
returns-in-loop-node c =
    let nodes = c.args.nodes.now in
    let meets = satisfies c.args.licensee.now in
    let here = found_at (λ r. meets (requirement_of r.req)) nodes c.loop-node.node-index _ c.in-Req.requirement c.loop-node-test.true (sym c.node-item.is ∙ c.in-Req.is) (sym c.satisfies.ensures ∙ c.if-satisfies.true) in
    sym (sym (any_in_tree meets _ (tree_in nodes) c.requires) ∙ sym c.loop-node.invariant ∙ here)

pub returns : goal.returns
returns c =
    let nodes = c.args.nodes.now in
    let meets = satisfies c.args.licensee.now in
    sym (sym (any_in_tree meets _ (tree_in nodes) c.requires) ∙ sym c.loop-node.invariant ∙ ap (λ (z : List ExprNode). list_any (λ r. meets (requirement_of r.req)) (requirements_in z)) (drop_all c.loop-node.node-index nodes (search rules)))
