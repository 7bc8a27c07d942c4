use Rattle.std.proofs.Common.{◌≡◌, drop, map}
use Rattle.package_choices.specs.Choice.{suffices_for}
use Rattle.package_choices.specs.Questions.{asked_of}
use Rattle.package_choices.proofs.allowed.judge.are_all_true.Given as goal

abbrev pub invariant-loop-question : goal.invariant-loop-question
invariant-loop-question l = record {
  answer : suffices_for (map asked_of (drop l.question-index l.questions)) l.selection ≡ suffices_for (map asked_of l.questions) l.selection;
  room : l.truths.room ≡ l.fn.truths.room;
}
