use Rattle.std.proofs.Common.{◌≡◌, ◌++◌, map, drop}
use Rattle.spdx_list.specs.Diff as spec
use Rattle.spdx_list.specs.DiffShown.{pair_of}
use Rattle.spdx_list.proofs.diff.changes.Given as goal

abbrev pub invariant-loop-new : goal.invariant-loop-new
invariant-loop-new g l =
    let shown = g.R.Listed.shown in
    map (pair_of shown) l.found.items ++ spec.changes g.R.Listed.name_of g.R.Listed.is_same (map shown l.olds) (map shown (drop l.new-index l.news))
    ≡ spec.changes g.R.Listed.name_of g.R.Listed.is_same (map shown l.olds) (map shown l.news)
