use Rattle.std.proofs.Common.{◌≡◌, ◌+◌, false, drop}
use Rattle.toml_places.specs.Literals.{quoted_len}
use Rattle.toml_places.proofs.literals.quoted_len.Given as goal

abbrev pub invariant-loop-at : goal.invariant-loop-at
invariant-loop-at l = quoted_len l.quotes false l.bytes ≡ l.at + quoted_len l.quotes l.is_escaped (drop l.at l.bytes)
