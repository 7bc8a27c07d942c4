use Rattle.std.proofs.Common.{◌≡◌, map, take}
use Rattle.package_choices.specs.Accepted.{held}
use Rattle.choice_program.specs.Named.{named, shown_all}
use Rattle.choice_program.proofs.named.all_named.Given as goal

abbrev pub invariant-loop-choice : goal.invariant-loop-choice
invariant-loop-choice l = shown_all l.all.items ≡ map (map named) (held (take l.choice-index l.choices))
