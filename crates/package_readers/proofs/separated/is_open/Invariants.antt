use Rattle.std.proofs.Common.{◌≡◌, drop}
use Rattle.package_readers.specs.Separated.{is_open, is_open_behind}
use Rattle.package_readers.proofs.separated.is_open.Given as goal

abbrev pub invariant-loop-byte : goal.invariant-loop-byte
invariant-loop-byte l = is_open l.separator l.bytes ≡ is_open_behind l.separator l.place (drop l.byte-index l.bytes)
