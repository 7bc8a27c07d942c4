use Rattle.std.proofs.Common.{◌≡◌, ◌++◌, map, filter, drop}
use Rattle.spdx_requirement.specs.Rows.{row_of, exception_of, imprecise_of}
use Rattle.spdx_list.specs.FullNames.{is_taken, full_row}
use Rattle.spdx_list.proofs.forms.full_names.full_names.Given as goal

abbrev pub invariant-loop-row : goal.invariant-loop-row
invariant-loop-row l =
    let taken = is_taken (map row_of l.licenses) (map exception_of l.exceptions) (map imprecise_of l.rows) in
    map imprecise_of l.full.items ++ map full_row (filter taken (map row_of (drop l.row-index l.licenses)))
    ≡ map full_row (filter taken (map row_of l.licenses))
