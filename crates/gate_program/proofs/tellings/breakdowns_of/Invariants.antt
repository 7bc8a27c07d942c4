use Rattle.std.proofs.Common.{take}
use Rattle.std.specs.List.{AllZip}
use Rattle.gate_program.specs.Tellings.{IsBreakdownOf}
use Rattle.gate_program.proofs.tellings.breakdowns_of.Given as goal

abbrev pub invariant-loop-one : goal.invariant-loop-one
invariant-loop-one l = AllZip IsBreakdownOf (take l.one-index l.all) l.breakdowns.items
