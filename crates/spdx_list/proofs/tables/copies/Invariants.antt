use Rattle.std.proofs.Common.{◌≡◌, map, take}
use Rattle.spdx_requirement.specs.Rows.{imprecise_of}
use Rattle.spdx_list.proofs.tables.copies.Given as goal

abbrev pub invariant-loop-row : goal.invariant-loop-row
invariant-loop-row l = map imprecise_of l.copies.items ≡ map imprecise_of (take l.row-index l.rows)
