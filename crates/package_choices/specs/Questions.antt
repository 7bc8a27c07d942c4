-- What is asked of a choice.
use Rattle.std.specs.Prelude.{ℕ, List, [], ◌∷◌, length, max}
use Rattle.spdx_evaluation.specs.Postfix.{tree_in}
use Rattle.package_choices.specs.declared.allowed.question.Question.{Question}
use Rattle.package_choices.specs.Choice.{Asked}

abbrev pub asked_of : Question → Asked
asked_of q =
    record { tree = tree_in q.nodes.now; allowed = q.allowed.now; numbers = q.numbers.items }

-- the nodes of the longest
abbrev pub longest : List Question → ℕ
longest [] = 0
longest (q ∷ qs) = max (length q.nodes.now) (longest qs)
