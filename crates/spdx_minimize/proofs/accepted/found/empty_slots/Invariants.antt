use Rattle.std.proofs.Common.{List}
use Rattle.spdx_requirement.specs.Items.{Requirement}
use Rattle.spdx_minimize.specs.FirstPlaces.{AreFound}
use Rattle.spdx_minimize.proofs.accepted.found.empty_slots.Given as goal

abbrev pub invariant-loop : goal.invariant-loop
invariant-loop l = (licensees : List Requirement) → AreFound licensees l.slots.items
