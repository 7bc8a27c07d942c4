use Rattle.std.proofs.Common.{◌≡◌, ◌++◌, drop, map}
use Rattle.spdx_evaluation.specs.Requirements.{requirements_in}
use Rattle.spdx_evaluation.proofs.Nodes.{requirement_at}
use Rattle.spdx_policy.specs.Decisions.{ways_of}
use Rattle.spdx_gate.specs.Ways.{each_reqs}
use Rattle.spdx_gate.proofs.advice.ways_in.Given as goal

abbrev pub invariant-loop-node : goal.invariant-loop-node
invariant-loop-node l =
    each_reqs l.ways.items ++ map (ways_of l.policy) (map requirement_at (requirements_in (drop l.node-index l.nodes)))
    ≡ map (ways_of l.policy) (map requirement_at (requirements_in l.nodes))
