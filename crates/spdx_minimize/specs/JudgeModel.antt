-- What a judge of selections shows.
use Rattle.std.specs.Prelude.{ℕ, List, length}
use Rattle.spdx_requirement.specs.Items.{Requirement}
use Rattle.spdx_parser.specs.Tree.{Tree}
use Rattle.spdx_evaluation.specs.Requirements.{nows}
use Rattle.spdx_minimize.specs.declared.judge.NodesJudge.{NodesJudge}
use Rattle.spdx_minimize.specs.Trees.{trees_in}

-- the trees of its expressions
abbrev pub judged_trees : NodesJudge → List Tree
judged_trees judge = trees_in judge.lists.items

-- what its members hold
abbrev pub judged_members : NodesJudge → List Requirement
judged_members judge = nows judge.members.items

-- how many members it has
abbrev pub judged_count : NodesJudge → ℕ
judged_count judge = length judge.members.items

-- how many questions were asked
abbrev pub questions_asked : NodesJudge → ℕ
questions_asked judge = judge.asked
