use Rattle.std.proofs.Common.{◌≡◌, ◌++◌, flat_map, take}
use Rattle.package_changes.specs.Texts.{cell_byte}
use Rattle.package_changes.proofs.forms.texts.put_cell_bytes.Given as goal

abbrev pub invariant-loop-byte : goal.invariant-loop-byte
invariant-loop-byte l = l.page.items ≡ l.initial.page.items ++ flat_map cell_byte (take l.byte-index l.bytes)
