use Rattle.std.proofs.Common.{◌≡◌, ◌++◌, take, drop}
use Rattle.spdx_requirement.specs.Items.{requirement_of}
use Rattle.spdx_licensee.specs.Satisfies as spec
use Rattle.spdx_minimize.specs.FirstPlaces.{first_places_from, places_for}
use Rattle.spdx_minimize.proofs.accepted.places_for.Given as goal

abbrev pub invariant-loop-place : goal.invariant-loop-place
invariant-loop-place l = l.found.items ++ first_places_from (λ m. spec.satisfies m (requirement_of l.requirement)) l.place (take l.place l.licensees) (drop l.place l.licensees) ≡ places_for l.licensees (requirement_of l.requirement)
