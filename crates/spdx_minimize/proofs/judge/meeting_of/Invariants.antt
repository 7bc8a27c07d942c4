use Rattle.std.proofs.Common.{◌≡◌, ◌≤◌, ◌++◌, drop, length, map}
use Rattle.std.specs.List.{All, flat_map}
use Rattle.spdx_minimize.specs.Trees.{trees_in}
use Rattle.spdx_minimize.specs.Places.{part_of, leaf_places}
use Rattle.spdx_evaluation.specs.Requirements.{nows}
use Rattle.spdx_minimize.proofs.judge.meeting_of.Given as goal

abbrev pub invariant-loop-list : goal.invariant-loop-list
invariant-loop-list l = record {
  met :
      map (part_of l.places.items) l.parts.items ++ flat_map (leaf_places (nows l.members)) (trees_in (drop l.list-index l.lists))
      ≡ flat_map (leaf_places (nows l.members)) (trees_in l.lists);
  within : All (λ p. (p.start ≤ p.end) × (p.end ≤ length l.places.items)) l.parts.items;
}
