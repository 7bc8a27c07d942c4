use Rattle.std.proofs.Common.{◌≡◌, map, take}
use Rattle.choice_program.specs.Named.{named, shown_all}
use Rattle.choice_program.specs.Picked.{pick_of, requirements_of}
use Rattle.choice_program.proofs.picked.all_own.Given as goal

abbrev pub invariant-loop-one : goal.invariant-loop-one
invariant-loop-one l = shown_all l.all.items ≡ map (map named) (map requirements_of (map pick_of (take l.one-index l.own)))
