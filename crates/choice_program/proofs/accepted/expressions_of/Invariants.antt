use Rattle.std.proofs.Common.{◌≡◌, map, take}
use Rattle.spdx.specs.Value.{trees_of}
use Rattle.choice_program.specs.Among.{meant_of, trees_in}
use Rattle.choice_program.proofs.accepted.expressions_of.Given as goal

abbrev pub invariant-loop-one : goal.invariant-loop-one
invariant-loop-one l = trees_of l.expressions.items ≡ trees_in (map meant_of (take l.one-index l.stated))
