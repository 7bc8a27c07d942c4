use Rattle.std.proofs.Common.{◌≡◌, ◌++◌, map, filter, drop}
use Rattle.spdx_requirement.specs.Rows.{row_of}
use Rattle.spdx_hints.specs.Borrowed.{nows}
use Rattle.spdx_hints.specs.Hints.{is_approved}
use Rattle.spdx_hints.proofs.hint.approved.Given as goal

abbrev pub invariant-loop-row : goal.invariant-loop-row
invariant-loop-row l =
    map row_of (nows l.kept.items) ++ filter is_approved (map row_of (nows (drop l.row-index l.rows)))
    ≡ filter is_approved (map row_of (nows l.rows))
