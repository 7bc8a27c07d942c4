use Rattle.std.proofs.Common.{◌≡◌, ◌++◌, replicate, string_bytes}
use Rattle.gate_forms.proofs.text.carets.put_copies.Given as goal

abbrev pub invariant-loop : goal.invariant-loop
invariant-loop l = string_bytes l.lines ≡ string_bytes l.initial.lines ++ replicate l.counter l.letter
