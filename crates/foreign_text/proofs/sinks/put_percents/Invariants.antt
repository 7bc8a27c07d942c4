use Rattle.std.proofs.Common.{◌≡◌, ◌++◌, string_bytes, flat_map, encode_utf8, take}
use Rattle.foreign_text.specs.Written.{percent}
use Rattle.foreign_text.proofs.sinks.put_percents.Given as goal

abbrev pub invariant-loop-byte : goal.invariant-loop-byte
invariant-loop-byte l =
    (l.byte-items ≡ encode_utf8 l.fn.letter) × (string_bytes l.line ≡ string_bytes l.initial.line ++ flat_map percent (take l.byte-index l.byte-items))
