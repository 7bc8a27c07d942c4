use Rattle.std.proofs.Common.{◌≡◌, ◌+◌, drop, map, length}
use Rattle.spdx_evaluation.specs.Requirements.{requirements_in}
use Rattle.spdx_evaluation.proofs.Nodes.{requirement_at}
use Rattle.spdx_minimize.specs.Choice.{chosen_of}
use Rattle.package_choices.specs.Members.{shown, grown}
use Rattle.package_choices.proofs.allowed.members.put_allowed.Given as goal

abbrev pub invariant-loop-node : goal.invariant-loop-node
invariant-loop-node l = record {
  so_far : grown (shown l.members.items) (chosen_of (map requirement_at (requirements_in (drop l.node-index l.offer.nodes.now))) (drop l.number l.offer.allowed.items))
      ≡ grown (shown l.fn.members.items) (chosen_of (map requirement_at (requirements_in l.offer.nodes.now)) l.offer.allowed.items);
  left : l.number + length (requirements_in (drop l.node-index l.offer.nodes.now)) ≡ length l.offer.allowed.items;
}
