use Rattle.std.proofs.Common.{◌≡◌, map, take}
use Rattle.spdx_minimize.specs.Choice.{chosen}
use Rattle.spdx.specs.Value.{trees_of}
use Rattle.package_choices.specs.Accepted.{own_choice, held}
use Rattle.package_choices.proofs.accepted.choices.own_choices.Given as goal

abbrev pub invariant-loop-place : goal.invariant-loop-place
invariant-loop-place l = take l.place (map (own_choice l.accepted) (trees_of l.expressions)) ≡ map chosen (held l.choices.items)
