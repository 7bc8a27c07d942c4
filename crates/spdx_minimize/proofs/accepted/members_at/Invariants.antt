use Rattle.std.proofs.Common.{◌≡◌, ◌++◌, drop}
use Rattle.spdx_evaluation.specs.Requirements.{nows}
use Rattle.spdx_minimize.specs.FirstPlaces.{at_places}
use Rattle.spdx_minimize.proofs.accepted.members_at.Given as goal

abbrev pub invariant-loop-place : goal.invariant-loop-place
invariant-loop-place l = nows l.members.items ++ at_places l.licensees (drop l.place-index l.places) ≡ at_places l.licensees l.places
