use Rattle.std.proofs.Common.{◌≡◌, ◌++◌, drop}
use Rattle.spdx_minimize.specs.Trees.{trees_in}
use Rattle.spdx_minimize.proofs.judge.copies_of.Given as goal

abbrev pub invariant-loop-list : goal.invariant-loop-list
invariant-loop-list l = trees_in l.copies.items ++ trees_in (drop l.list-index l.lists) ≡ trees_in l.lists
