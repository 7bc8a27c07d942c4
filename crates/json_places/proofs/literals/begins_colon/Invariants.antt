use Rattle.std.proofs.Common.{◌≡◌, drop}
use Rattle.json_places.specs.Literals.{begins_colon}
use Rattle.json_places.proofs.literals.begins_colon.Given as goal

abbrev pub invariant-loop-byte : goal.invariant-loop-byte
invariant-loop-byte l = begins_colon l.bytes ≡ begins_colon (drop l.byte-index l.bytes)
