use Rattle.std.proofs.Common.{arith, ap, length}
use Rattle.package_choices.specs.declared.allowed.question.Question.{Question}
use Rattle.package_choices.proofs.Meeting.{each_fits}
use Rattle.package_choices.proofs.allowed.judge.are_all_true.Goals as goal

pub is_true-requires : goal.is_true-requires
is_true-requires c =
    let fits = each_fits c.args.questions.now c.loop-question.question-index c.question-item.result c.loop-question-test.true in
    omega (arith, fits, ap (λ (q : Question). length q.nodes.now) c.question-item.is, c.requires, c.loop-question.invariant.room)
