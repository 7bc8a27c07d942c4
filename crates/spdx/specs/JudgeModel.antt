-- What a judge of selections shows.
use Rattle.std.specs.Prelude.{ℕ, List}
use Rattle.spdx_requirement.specs.Items.{Requirement}
use Rattle.spdx_parser.specs.Tree.{Tree}
use Rattle.spdx_minimize.specs.JudgeModel as nodes
use Rattle.spdx.specs.declared.expression.judge.ExpressionJudge.{ExpressionJudge}

-- the trees of its expressions
abbrev pub judged_trees : ExpressionJudge → List Tree
judged_trees judge = nodes.judged_trees judge.of_nodes

-- what its members hold
abbrev pub judged_members : ExpressionJudge → List Requirement
judged_members judge = nodes.judged_members judge.of_nodes

-- how many members it has
abbrev pub judged_count : ExpressionJudge → ℕ
judged_count judge = nodes.judged_count judge.of_nodes

-- how many questions were asked
abbrev pub questions_asked : ExpressionJudge → ℕ
questions_asked judge = nodes.questions_asked judge.of_nodes
