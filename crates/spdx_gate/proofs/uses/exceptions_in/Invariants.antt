use Rattle.std.proofs.Common.{take}
use Rattle.spdx_gate.specs.Used.{AreExceptions}
use Rattle.spdx_gate.proofs.uses.exceptions_in.Given as goal

abbrev pub invariant-loop-row : goal.invariant-loop-row
invariant-loop-row l = AreExceptions l.exceptions (take l.row-index l.rows)
