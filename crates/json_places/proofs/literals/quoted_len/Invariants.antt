use Rattle.std.proofs.Common.{◌≡◌, ◌+◌, drop, false}
use Rattle.json_places.specs.Literals.{quoted_len}
use Rattle.json_places.proofs.literals.quoted_len.Given as goal

abbrev pub invariant-loop-at : goal.invariant-loop-at
invariant-loop-at l = quoted_len false l.bytes ≡ l.at + quoted_len l.is_escaped (drop l.at l.bytes)
