use Rattle.std.proofs.Common.{take}
use Rattle.spdx_gate.specs.Advising.{AreEntries, wanted_by}
use Rattle.spdx_gate.specs.Texts.{each_once}
use Rattle.spdx_gate.specs.Ways.{each_reqs}
use Rattle.spdx_gate.proofs.advice.offers_of.Given as goal

abbrev pub invariant-loop-number : goal.invariant-loop-number
invariant-loop-number l = AreEntries l.policy (each_once (wanted_by l.policy l.exceptions l.accepted (each_reqs (take l.number l.ways)))) l.offers.items
