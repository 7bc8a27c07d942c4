use Rattle.std.proofs.Common.{◌≡◌, ◌+◌, drop, map, length}
use Rattle.spdx_requirement.specs.Items.{requirement_of}
use Rattle.spdx_evaluation.specs.Requirements.{requirements_in}
use Rattle.spdx_evaluation.proofs.Nodes.{requirement_at}
use Rattle.spdx_why.specs.Least.{first_candidate}
use Rattle.spdx_why.proofs.firsts.first_same.Given as goal

abbrev pub invariant-loop-node : goal.invariant-loop-node
invariant-loop-node l = record {
  so_far : l.number + first_candidate (map requirement_at (requirements_in (drop l.node-index l.nodes))) (drop l.number l.candidates) (requirement_of l.requirement)
      ≡ first_candidate (map requirement_at (requirements_in l.nodes)) l.candidates (requirement_of l.requirement);
  left : l.number + length (requirements_in (drop l.node-index l.nodes)) ≡ length l.candidates;
}
