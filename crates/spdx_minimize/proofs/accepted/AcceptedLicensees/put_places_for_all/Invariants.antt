use Rattle.std.proofs.Common.{◌≡◌, ◌++◌, drop}
use Rattle.std.specs.List.{flat_map}
use Rattle.spdx_requirement.specs.Items.{requirement_of}
use Rattle.spdx_evaluation.specs.Requirements.{requirements_in}
use Rattle.spdx_minimize.specs.AcceptedModel.{licensees_of}
use Rattle.spdx_minimize.specs.FirstPlaces.{places_for}
use Rattle.spdx_minimize.proofs.accepted.AcceptedLicensees.put_places_for_all.Given as goal

abbrev pub invariant-loop-node : goal.invariant-loop-node
invariant-loop-node l = record {
  licensees : licensees_of l.self ≡ licensees_of l.initial.self;
  places :
      l.places.items ++ flat_map (λ r. places_for (licensees_of l.initial.self) (requirement_of r.req)) (requirements_in (drop l.node-index l.nodes))
      ≡ l.initial.places.items ++ flat_map (λ r. places_for (licensees_of l.initial.self) (requirement_of r.req)) (requirements_in l.nodes);
}
