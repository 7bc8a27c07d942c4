use Rattle.std.proofs.Common.{rules, sym, ◌∙◌, ap, ◌≡◌, List, [], ◌++◌, drop, map}
use Rattle.std.proofs.lemmas.List.{append-nil, drop_all}
use Rattle.spdx_requirement.specs.Items.{Requirement}
use Rattle.spdx_parser.specs.declared.node.ExprNode.{ExprNode}
use Rattle.spdx_evaluation.specs.Postfix.{tree_in}
use Rattle.spdx_evaluation.specs.Requirements.{requirements_in}
use Rattle.spdx_evaluation.proofs.Nodes.{requirement_at, requirements_of_tree}
use Rattle.spdx_policy.specs.Decisions.{ways_of}
use Rattle.spdx_gate.specs.Ways.{each_reqs}
use Rattle.spdx_gate.proofs.advice.ways_in.Goals as goal

pub returns : goal.returns
returns c =
    let nodes = c.args.nodes.now in
    let of = ways_of c.args.policy.now in
    let none : drop c.loop-node.node-index nodes ≡ [] = drop_all c.loop-node.node-index nodes (search rules) in
    sym (append-nil (each_reqs c.loop-node.ways.items))
    ∙ ap (λ (z : List ExprNode). each_reqs c.loop-node.ways.items ++ map of (map requirement_at (requirements_in z))) (sym none)
    ∙ c.loop-node.invariant
    ∙ ap (λ (z : List Requirement). map of z) (requirements_of_tree nodes (tree_in nodes) c.requires)
