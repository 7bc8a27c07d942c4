use Rattle.std.proofs.Common.{◌≡◌, ◌++◌, flat_map, map, take}
use Rattle.spdx_list.specs.Diff.{nows}
use Rattle.list_told.specs.Changes.{removed_line}
use Rattle.list_told.proofs.changes.put_removed.Given as goal

abbrev pub invariant-loop-row : goal.invariant-loop-row
invariant-loop-row g l =
    l.text.items ≡ l.initial.text.items
    ++ flat_map (λ r. removed_line (g.R.Listed.name_of r)) (map g.R.Listed.shown (nows (take l.row-index l.rows)))
