-- What a judge of choices shows.
use Rattle.std.specs.Prelude.{ℕ, Bool, List}
use Rattle.spdx_parser.specs.Tree.{Tree}
use Rattle.spdx_evaluation.specs.Postfix.{tree_in}
use Rattle.spdx_why.specs.declared.judge.ChoiceJudge.{ChoiceJudge}
use Rattle.spdx_why.specs.Serving.{lists_in}

abbrev pub judged_tree : ChoiceJudge → Tree
judged_tree judge = tree_in judge.nodes.now

abbrev pub judged_accepted : ChoiceJudge → List Bool
judged_accepted judge = judge.accepted.now

abbrev pub judged_serving : ChoiceJudge → List (List ℕ)
judged_serving judge = lists_in judge.serving.now

-- how many candidates there are
abbrev pub judged_count : ChoiceJudge → ℕ
judged_count judge = judge.count

-- how many questions were asked
abbrev pub questions_asked : ChoiceJudge → ℕ
questions_asked judge = judge.asked
