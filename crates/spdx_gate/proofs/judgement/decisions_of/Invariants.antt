use Rattle.std.proofs.Common.{◌≡◌, ◌++◌, drop, map}
use Rattle.spdx_evaluation.specs.Requirements.{requirements_in}
use Rattle.spdx_evaluation.proofs.Nodes.{requirement_at}
use Rattle.spdx_policy.specs.Decisions.{decision_of}
use Rattle.spdx_gate.proofs.judgement.decisions_of.Given as goal

abbrev pub invariant-loop-node : goal.invariant-loop-node
invariant-loop-node l =
    l.decisions.items ++ map (decision_of l.policy l.exceptions) (map requirement_at (requirements_in (drop l.node-index l.nodes)))
    ≡ map (decision_of l.policy l.exceptions) (map requirement_at (requirements_in l.nodes))
