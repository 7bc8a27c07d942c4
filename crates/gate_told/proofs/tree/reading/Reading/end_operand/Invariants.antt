use Rattle.std.proofs.Common.{◌≡◌, vec_len}
use Rattle.gate_told.specs.Reading.{reading_of, operand_read}
use Rattle.gate_told.proofs.tree.reading.Reading.end_operand.Given as goal

-- what is left to end comes to the same
abbrev pub invariant-loop-waiting : goal.invariant-loop-waiting
invariant-loop-waiting l = operand_read l.accepted (reading_of l.self) ≡ operand_read l.initial.accepted (reading_of l.initial.self)

abbrev pub decreases-loop-waiting : goal.decreases-loop-waiting
decreases-loop-waiting l = vec_len l.self.waiting
