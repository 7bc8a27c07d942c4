use Rattle.std.proofs.Common.{◌≡◌, drop}
use Rattle.spdx_minimize.specs.Choice.{satisfies_some}
use Rattle.spdx_minimize.specs.Trees.{trees_in}
use Rattle.spdx_minimize.proofs.useful.is_useful.Given as goal

abbrev pub invariant-loop-list : goal.invariant-loop-list
invariant-loop-list l = satisfies_some (trees_in (drop l.list-index l.lists)) l.licensee ≡ satisfies_some (trees_in l.lists) l.licensee
