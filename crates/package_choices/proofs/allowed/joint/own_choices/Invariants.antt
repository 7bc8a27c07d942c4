use Rattle.std.proofs.Common.{◌≡◌, ◌++◌, drop, map}
use Rattle.spdx_why.specs.Least.{advised}
use Rattle.package_choices.specs.Choice.{own_in}
use Rattle.package_choices.specs.Questions.{asked_of}
use Rattle.package_choices.proofs.allowed.joint.own_choices.Given as goal

abbrev pub invariant-loop-question : goal.invariant-loop-question
invariant-loop-question l = map advised l.choices.items ++ map (own_in l.selection) (map asked_of (drop l.question-index l.questions)) ≡ map (own_in l.selection) (map asked_of l.questions)
