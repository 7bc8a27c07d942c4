use Rattle.std.proofs.Common.{◌≡◌, map, take}
use Rattle.gate_program.specs.Asked.{refusal_in}
use Rattle.gate_program.proofs.before.refusals_of.Given as goal

abbrev pub invariant-loop-one : goal.invariant-loop-one
invariant-loop-one l = l.refusals.items ≡ map refusal_in (take l.one-index l.all)
