use Rattle.std.proofs.Common.{◌≡◌, ◌++◌, map, filter, drop}
use Rattle.spdx_requirement.specs.Rows.{row_of, exception_of, imprecise_of}
use Rattle.spdx_list.specs.Forms.{is_new}
use Rattle.spdx_list.proofs.forms.new_forms.Given as goal

abbrev pub invariant-loop-form : goal.invariant-loop-form
invariant-loop-form l =
    let new = is_new (map row_of l.licenses) (map exception_of l.exceptions) (map imprecise_of l.rows) in
    map imprecise_of l.new.items ++ filter new (map imprecise_of (drop l.form-index l.form-items))
    ≡ filter new (map imprecise_of l.form-items)
