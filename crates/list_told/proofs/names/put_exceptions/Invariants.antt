use Rattle.std.proofs.Common.{◌≡◌, ◌++◌, flat_map, map, take}
use Rattle.spdx_requirement.specs.Rows.{exception_name, exception_of}
use Rattle.list_told.specs.Told.{name_line}
use Rattle.list_told.proofs.names.put_exceptions.Given as goal

abbrev pub invariant-loop-row : goal.invariant-loop-row
invariant-loop-row l =
    l.text.items ≡ l.initial.text.items ++ flat_map name_line (map exception_name (map exception_of (take l.row-index l.rows)))
