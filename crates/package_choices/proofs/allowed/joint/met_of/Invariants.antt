use Rattle.std.proofs.Common.{◌≡◌, take}
use Rattle.package_choices.specs.Choice.{met_in}
use Rattle.package_choices.specs.Questions.{asked_of}
use Rattle.package_choices.proofs.allowed.joint.met_of.Given as goal

abbrev pub invariant-loop-number : goal.invariant-loop-number
invariant-loop-number l = l.answers.items ≡ take l.number (met_in (asked_of l.question) l.selection)
