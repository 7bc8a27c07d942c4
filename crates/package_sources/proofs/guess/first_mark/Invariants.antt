use Rattle.std.proofs.Common.{◌≡◌, drop}
use Rattle.std.specs.List.{find}
use Rattle.package_sources.specs.Guess.{is_mark}
use Rattle.package_sources.proofs.guess.first_mark.Given as goal

abbrev pub invariant-loop-byte : goal.invariant-loop-byte
invariant-loop-byte l = find is_mark l.bytes ≡ find is_mark (drop l.byte-index l.bytes)
