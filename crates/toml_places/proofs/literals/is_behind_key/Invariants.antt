use Rattle.std.proofs.Common.{◌≡◌, drop}
use Rattle.toml_places.specs.Literals.{is_behind_key}
use Rattle.toml_places.proofs.literals.is_behind_key.Given as goal

abbrev pub invariant-loop-byte : goal.invariant-loop-byte
invariant-loop-byte l = is_behind_key l.bytes ≡ is_behind_key (drop l.byte-index l.bytes)
