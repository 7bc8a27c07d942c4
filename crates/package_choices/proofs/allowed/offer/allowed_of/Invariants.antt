use Rattle.std.proofs.Common.{◌≡◌, ◌++◌, drop}
use Rattle.spdx_gate.specs.Judging.{accepted_in}
use Rattle.package_choices.proofs.allowed.offer.allowed_of.Given as goal

abbrev pub invariant-loop-decision : goal.invariant-loop-decision
invariant-loop-decision l = l.allowed.items ++ accepted_in (drop l.decision-index l.decisions) ≡ accepted_in l.decisions
