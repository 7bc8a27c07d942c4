use Rattle.std.proofs.Common.{◌≡◌, ◌≤◌, ℕ, get_or, length, map, drop}
use Rattle.std.specs.Prelude.{not}
use Rattle.std.specs.List.{find}
use Rattle.spdx_evaluation.specs.Postfix.{tree_in}
use Rattle.spdx_evaluation.specs.Truth.{truth_of}
use Rattle.selections.specs.Sets.{is_in, sets_in}
use Rattle.spdx_meaning.proofs.asks.first_failing.Given as goal

abbrev pub invariant-loop-index : goal.invariant-loop-index
invariant-loop-index l = record {
  none : find (λ s. not (truth_of (tree_in l.nodes) (map (is_in s) l.numbers))) (sets_in (drop l.index l.sets))
      ≡ find (λ s. not (truth_of (tree_in l.nodes) (map (is_in s) l.numbers))) (sets_in l.sets);
  room : length l.nodes ≤ l.truths.room;
  low : (k : ℕ) → get_or l.marks k 0 ≤ l.index;
}
