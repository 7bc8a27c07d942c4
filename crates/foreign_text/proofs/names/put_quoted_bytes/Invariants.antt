use Rattle.std.proofs.Common.{◌≡◌, ◌++◌, flat_map, take}
use Rattle.foreign_text.specs.Names.{quoted_byte}
use Rattle.foreign_text.proofs.names.put_quoted_bytes.Given as goal

abbrev pub invariant-loop-byte : goal.invariant-loop-byte
invariant-loop-byte l = l.text.items ≡ l.initial.text.items ++ flat_map quoted_byte (take l.byte-index l.bytes)
