use Rattle.std.proofs.Common.{map, take, string_bytes}
use Rattle.spdx_policy.specs.Meant.{Each, IsNamed}
use Rattle.spdx_policy.specs.Named.{named_row}
use Rattle.spdx_policy.proofs.reading.names_of.Given as goal

abbrev pub invariant-loop-index : goal.invariant-loop-index
invariant-loop-index l = Each (IsNamed l.catalogue l.replacements) (map string_bytes (take l.index l.texts)) (map named_row l.names.items)
