use Rattle.std.proofs.Common.{◌≡◌, map, take}
use Rattle.gate_program.specs.Known.{is_known}
use Rattle.gate_program.proofs.known.known_among.Given as goal

abbrev pub invariant-loop-refusal : goal.invariant-loop-refusal
invariant-loop-refusal l = l.known.items ≡ map (is_known l.before) (take l.refusal-index l.now)
