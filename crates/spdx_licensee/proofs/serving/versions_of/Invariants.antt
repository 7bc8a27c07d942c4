use Rattle.std.proofs.Common.{◌≡◌, ◌++◌, true, map, drop, option_map}
use Rattle.std.specs.List.{filter}
use Rattle.spdx_requirement.specs.Ids.{id_row}
use Rattle.spdx_requirement.specs.Items.{requirement_of, addition_of}
use Rattle.spdx_requirement.specs.Rows.{row_of}
use Rattle.spdx_licensee.specs.Ways.{way_of, serves}
use Rattle.spdx_licensee.proofs.serving.versions_of.Given as goal

abbrev pub invariant-loop-row : goal.invariant-loop-row
invariant-loop-row l =
    map requirement_of l.found.items ++ map (way_of (option_map addition_of l.addition)) (filter (serves (id_row l.id) true) (map row_of (drop l.row-index l.row-items)))
    ≡ map (way_of (option_map addition_of l.addition)) (filter (serves (id_row l.id) true) (map row_of l.row-items))
