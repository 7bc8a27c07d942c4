use Rattle.std.proofs.Common.{◌≡◌, map, take}
use Rattle.std.specs.Prelude.{filter}
use Rattle.gate_program.specs.declared.before.Asked.{Asked}
use Rattle.gate_program.specs.Asked.{refusal_in}
use Rattle.gate_program.proofs.before.refused_of.Given as goal

abbrev pub invariant-loop-one : goal.invariant-loop-one
invariant-loop-one l = l.refusals.items ≡ map refusal_in (filter (λ (a : Asked). a.is_refused) (take l.one-index l.all))
