use Rattle.std.proofs.Common.{◌≡◌, ◌++◌, flat_map, map, take}
use Rattle.spdx_requirement.specs.Rows.{exception_of}
use Rattle.spdx_list.specs.Diff.{nows}
use Rattle.list_told.specs.Changes.{added_exception}
use Rattle.list_told.proofs.changes.put_added_exceptions.Given as goal

abbrev pub invariant-loop-row : goal.invariant-loop-row
invariant-loop-row l =
    l.text.items ≡ l.initial.text.items ++ flat_map added_exception (map exception_of (nows (take l.row-index l.rows)))
