use Rattle.std.proofs.Common.{map, take}
use Rattle.spdx_requirement.specs.Items.{requirement_of}
use Rattle.spdx_gate.specs.Advising.{AddsOffers, free_texts}
use Rattle.spdx_gate.proofs.advice.add_each.Given as goal

abbrev pub invariant-loop-way : goal.invariant-loop-way
invariant-loop-way l = AddsOffers l.policy (free_texts l.policy l.exceptions (map requirement_of (take l.way-index l.ways))) l.fn.offers.items l.offers.items
