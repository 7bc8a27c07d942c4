use Rattle.std.proofs.Common.{◌≡◌, ◌++◌, map, drop}
use Rattle.spdx_list.specs.Diff as spec
use Rattle.spdx_list.proofs.diff.only_here.Given as goal

abbrev pub invariant-loop-row : goal.invariant-loop-row
invariant-loop-row g l =
    let shown = g.R.Listed.shown in
    map shown (spec.nows l.found.items) ++ spec.only_here g.R.Listed.name_of (map shown (drop l.row-index l.rows)) (map shown l.others)
    ≡ spec.only_here g.R.Listed.name_of (map shown l.rows) (map shown l.others)
