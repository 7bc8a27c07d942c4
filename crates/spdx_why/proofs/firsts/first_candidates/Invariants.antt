use Rattle.std.proofs.Common.{◌≡◌, ◌++◌, drop, map}
use Rattle.spdx_parser.specs.Tree.{leaves}
use Rattle.spdx_evaluation.specs.Postfix.{tree_in}
use Rattle.spdx_evaluation.specs.Requirements.{requirements_in}
use Rattle.spdx_evaluation.proofs.Nodes.{requirement_at}
use Rattle.spdx_why.specs.Least.{first_candidate}
use Rattle.spdx_why.specs.Serving.{lists_in, alone}
use Rattle.spdx_why.proofs.firsts.first_candidates.Given as goal

abbrev pub invariant-loop-node : goal.invariant-loop-node
invariant-loop-node l =
    lists_in l.serving.items ++ map alone (map (first_candidate (leaves (tree_in l.nodes)) l.candidates) (map requirement_at (requirements_in (drop l.node-index l.nodes))))
    ≡ map alone (map (first_candidate (leaves (tree_in l.nodes)) l.candidates) (map requirement_at (requirements_in l.nodes)))
