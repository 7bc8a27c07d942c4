use Rattle.std.proofs.Common.{take}
use Rattle.gate_program.specs.Sets.{Has}
use Rattle.gate_program.proofs.known.set_of.Given as goal

abbrev pub invariant-loop-refusal : goal.invariant-loop-refusal
invariant-loop-refusal l = Has l.set (take l.refusal-index l.refusals)
