use Rattle.std.proofs.Common.{◌∙◌}
use Rattle.spdx_evaluation.specs.Requirements.{nows}
use Rattle.spdx_minimize.specs.Trees.{trees_in}
use Rattle.spdx_minimize.proofs.Places.{all_answered, each_part}
use Rattle.spdx_minimize.proofs.judge.held.HeldJudgeSufficiency.judge.Goals as goal

pub are_all_true-requires-clause-each : goal.are_all_true-requires-clause-each
are_all_true-requires-clause-each c =
    let judge = c.args.self.now in
    each_part (nows judge.members.now) (trees_in judge.lists.now) judge.meeting judge.over

pub returns-clause-answer : goal.returns-clause-answer
returns-clause-answer c =
    let judge = c.args.self.now in
    c.are_all_true.ensures.answer
    ∙ all_answered (nows judge.members.now) c.args.selection.now (trees_in judge.lists.now) judge.meeting judge.over
