use Rattle.std.proofs.Common.{◌≡◌, ◌≤◌, ◌++◌, drop, length, map}
use Rattle.std.specs.List.{All}
use Rattle.spdx_minimize.specs.Places.{places_in, part_of}
use Rattle.spdx_evaluation.specs.Requirements.{nows}
use Rattle.spdx_minimize.proofs.judge.push_parts.Given as goal

abbrev pub invariant-loop-node : goal.invariant-loop-node
invariant-loop-node l = record {
  met :
      map (part_of l.places.items) l.parts.items ++ places_in (nows l.members) (drop l.node-index l.nodes)
      ≡ map (part_of l.initial.places.items) l.initial.parts.items ++ places_in (nows l.members) l.nodes;
  within : All (λ p. (p.start ≤ p.end) × (p.end ≤ length l.places.items)) l.parts.items;
}
