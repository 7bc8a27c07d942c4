use Rattle.std.proofs.Common.{ℕ, List}
use Rattle.spdx_check.specs.declared.check.Check.{Check}
use Rattle.spdx_check.specs.Known.{AreHeld}
use Rattle.spdx_check.proofs.remembered.empty_slots.Given as goal

abbrev pub invariant-loop : goal.invariant-loop
invariant-loop l = (check : Check) (file : List ℕ) → AreHeld check file l.slots.items
