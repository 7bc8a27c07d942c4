use Rattle.std.proofs.Common.{take}
use Rattle.spdx_gate.specs.Used.{AreClarifications}
use Rattle.spdx_gate.proofs.uses.clarifications_in.Given as goal

abbrev pub invariant-loop-row : goal.invariant-loop-row
invariant-loop-row l = AreClarifications l.clarifications (take l.row-index l.rows)
