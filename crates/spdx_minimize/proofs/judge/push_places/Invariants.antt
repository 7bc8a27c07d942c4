use Rattle.std.proofs.Common.{◌≡◌, ◌++◌, drop}
use Rattle.spdx_requirement.specs.Items.{requirement_of}
use Rattle.spdx_licensee.specs.Satisfies.{satisfies}
use Rattle.spdx_minimize.specs.Places.{places_from, places}
use Rattle.spdx_evaluation.specs.Requirements.{nows}
use Rattle.spdx_minimize.proofs.judge.push_places.Given as goal

abbrev pub invariant-loop-place : goal.invariant-loop-place
invariant-loop-place l = l.found.items ++ places_from (λ m. satisfies m (requirement_of l.requirement)) l.place (nows (drop l.place l.members)) ≡ l.fn.found.items ++ places (nows l.members) (requirement_of l.requirement)
