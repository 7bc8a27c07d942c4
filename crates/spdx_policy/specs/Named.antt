-- What entries show.
use Rattle.std.specs.Prelude.{string_bytes}
use Rattle.spdx_requirement.specs.Items.{requirement_of}
use Rattle.spdx_policy.specs.declared.named.Named.{Named}
use Rattle.spdx_policy.specs.Rules.{NamedRow}

-- an entry shows its text and what it means
abbrev pub named_row : Named → NamedRow
named_row n = record { text = string_bytes n.text; sense = requirement_of n.sense }
