use Rattle.std.proofs.Common.{◌≡◌, ◌++◌, drop}
use Rattle.std.specs.List.{flat_map}
use Rattle.spdx_parser.specs.Tree.{leaves}
use Rattle.spdx_minimize.specs.AcceptedModel.{licensees_of}
use Rattle.spdx_minimize.specs.FirstPlaces.{places_for}
use Rattle.spdx_minimize.specs.Trees.{trees_in}
use Rattle.spdx_minimize.proofs.accepted.AcceptedLicensees.useful_members.Given as goal

abbrev pub invariant-loop-list : goal.invariant-loop-list
invariant-loop-list l = record {
  licensees : licensees_of l.self ≡ licensees_of l.initial.self;
  places :
      l.places.items ++ flat_map (λ t. flat_map (places_for (licensees_of l.initial.self)) (leaves t)) (trees_in (drop l.list-index l.lists))
      ≡ flat_map (λ t. flat_map (places_for (licensees_of l.initial.self)) (leaves t)) (trees_in l.lists);
}
