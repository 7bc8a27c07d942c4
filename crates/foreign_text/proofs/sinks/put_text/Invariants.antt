use Rattle.std.proofs.Common.{◌≡◌, ◌++◌, string_bytes, flat_map}
use Rattle.foreign_text.specs.Written.{char_for}
use Rattle.foreign_text.proofs.sinks.put_text.Given as goal

abbrev pub invariant-loop-letter : goal.invariant-loop-letter
invariant-loop-letter l =
    string_bytes l.line ≡ string_bytes l.initial.line ++ flat_map (char_for l.sink) l.yielded
