use Rattle.std.proofs.Common.{◌≡◌, ◌++◌, flat_map, take, string_bytes}
use Rattle.spdx_hints.specs.Borrowed.{nows}
use Rattle.gate_told.specs.Unread.{next_name}
use Rattle.gate_told.proofs.unread.put_others.Given as goal

abbrev pub invariant-loop-name : goal.invariant-loop-name
invariant-loop-name l = string_bytes l.told ≡ string_bytes l.initial.told ++ flat_map next_name (nows (take l.name-index l.names))
