use Rattle.std.proofs.Common.{◌≡◌, map, filter, string_bytes}
use Rattle.spdx_requirement.specs.Rows.{row_of}
use Rattle.spdx_list.specs.Files as spec
use Rattle.spdx_list.specs.Shown.{entry_of}
use Rattle.spdx_list.proofs.tables.licenses_of.Given as goal

abbrev pub invariant-loop-entry : goal.invariant-loop-entry
invariant-loop-entry l = map row_of l.rows.items ≡ map (spec.license_of (map string_bytes l.copyleft)) (filter spec.is_listed (map entry_of l.yielded))
