use Rattle.std.proofs.Common.{◌≡◌, ◌++◌, drop, map}
use Rattle.spdx_requirement.specs.Items.{requirement_of}
use Rattle.spdx_policy.specs.Decisions.{frees}
use Rattle.spdx_policy.specs.Scopes.{places, places_from}
use Rattle.spdx_gate.proofs.advice.serving_in.Given as goal

abbrev pub invariant-loop-number : goal.invariant-loop-number
invariant-loop-number l =
    l.found.items ++ places_from l.number (frees l.policy l.exceptions (map requirement_of l.ways)) (drop l.number l.offers)
    ≡ places (frees l.policy l.exceptions (map requirement_of l.ways)) l.offers
