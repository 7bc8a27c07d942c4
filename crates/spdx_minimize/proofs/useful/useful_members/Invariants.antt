use Rattle.std.proofs.Common.{◌≡◌, ◌++◌, take, drop}
use Rattle.std.specs.List.{filter}
use Rattle.spdx_minimize.specs.Choice.{first_ones, satisfies_some, useful}
use Rattle.spdx_minimize.specs.Trees.{trees_in}
use Rattle.spdx_evaluation.specs.Requirements.{nows}
use Rattle.spdx_minimize.proofs.useful.useful_members.Given as goal

abbrev pub invariant-loop-place : goal.invariant-loop-place
invariant-loop-place l =
    nows l.members.items ++ filter (satisfies_some (trees_in l.lists)) (first_ones (take l.place l.accepted) (drop l.place l.accepted)) ≡ useful (trees_in l.lists) l.accepted
