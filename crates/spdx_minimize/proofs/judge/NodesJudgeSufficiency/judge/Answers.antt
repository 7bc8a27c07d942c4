use Rattle.std.proofs.Common.{◌∙◌, sym, ap, length, map}
use Rattle.std.specs.List.{flat_map}
use Rattle.spdx_parser.specs.Tree.{leaves}
use Rattle.spdx_evaluation.specs.Requirements.{nows}
use Rattle.spdx_minimize.specs.Trees.{trees_in}
use Rattle.spdx_minimize.specs.Places.{any_at, met_by, all_true}
use Rattle.spdx_minimize.proofs.Places.{all_answered, each_part}
use Rattle.spdx_minimize.proofs.judge.NodesJudgeSufficiency.judge.Goals as goal

pub are_all_true-requires-clause-each : goal.are_all_true-requires-clause-each
are_all_true-requires-clause-each c =
    let judge = c.args.self.now in
    each_part (nows judge.members.items) (trees_in judge.lists.items) judge.meeting judge.over
    ∙ ap (λ lists. length (flat_map leaves (trees_in lists))) (sym c.as_slice.ensures.value)

pub returns-clause-answer : goal.returns-clause-answer
returns-clause-answer c =
    let judge = c.args.self.now in
    c.are_all_true.ensures.answer
    ∙ ap (λ lists. all_true (trees_in lists) (map (any_at c.args.selection.now) (met_by judge.meeting))) c.as_slice.ensures.value
    ∙ all_answered (nows judge.members.items) c.args.selection.now (trees_in judge.lists.items) judge.meeting judge.over
