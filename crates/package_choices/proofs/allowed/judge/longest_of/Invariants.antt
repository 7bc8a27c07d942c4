use Rattle.std.proofs.Common.{◌≡◌, drop, max}
use Rattle.package_choices.specs.Questions.{longest}
use Rattle.package_choices.proofs.allowed.judge.longest_of.Given as goal

abbrev pub invariant-loop-question : goal.invariant-loop-question
invariant-loop-question l = max l.most (longest (drop l.question-index l.questions)) ≡ longest l.questions
