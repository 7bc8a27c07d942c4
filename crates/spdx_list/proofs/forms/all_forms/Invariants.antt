use Rattle.std.proofs.Common.{◌≡◌, ◌++◌, map, flat_map, drop}
use Rattle.spdx_requirement.specs.Rows.{row_of, imprecise_of}
use Rattle.spdx_list.specs.Forms.{forms_for}
use Rattle.spdx_list.proofs.forms.all_forms.Given as goal

abbrev pub invariant-loop-row : goal.invariant-loop-row
invariant-loop-row l =
    map imprecise_of l.forms.items ++ flat_map forms_for (map row_of (drop l.row-index l.licenses))
    ≡ flat_map forms_for (map row_of l.licenses)
