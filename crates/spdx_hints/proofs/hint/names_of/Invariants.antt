use Rattle.std.proofs.Common.{◌≡◌, ◌++◌, map, drop}
use Rattle.spdx_requirement.specs.Rows.{row_of, license_name}
use Rattle.spdx_hints.specs.Borrowed.{nows}
use Rattle.spdx_hints.proofs.hint.names_of.Given as goal

abbrev pub invariant-loop-row : goal.invariant-loop-row
invariant-loop-row l =
    nows l.names.items ++ map license_name (map row_of (nows (drop l.row-index l.rows)))
    ≡ map license_name (map row_of (nows l.rows))
