use Rattle.std.proofs.Common.{map, take, string_bytes}
use Rattle.spdx_list.specs.Names.{Has}
use Rattle.spdx_list.proofs.tables.set_of.Given as goal

abbrev pub invariant-loop-name : goal.invariant-loop-name
invariant-loop-name l = Has l.set (map string_bytes (take l.name-index l.names))
