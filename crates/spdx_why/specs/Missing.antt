-- What the refusal of an expression hangs on. A requirement is named by its number: how many stand
-- before it.
use Rattle.std.specs.Prelude.{◌≡◌, ℕ, ◌+◌, Bool, true, false, not, cond, List, [], ◌∷◌, ◌++◌, length, slice_index_or}
use Rattle.std.specs.List.{list_all}
use Rattle.spdx_parser.specs.Tree.{Tree, Leaf, Join, leaves}
use Rattle.selections.specs.Selection.{IsWithin}
use Rattle.spdx_evaluation.specs.Truth.{joined, truth_of}

-- the answer to the requirement of this number
abbrev pub answer_in : List Bool → ℕ → Bool
answer_in answers k = slice_index_or answers k false

-- the truth of a tree whose first requirement has the number k
abbrev pub truth_from : (ℕ → Bool) → ℕ → Tree → Bool
truth_from answer k (Leaf r) = answer k
truth_from answer k (Join o l r) =
    joined o (truth_from answer k l) (truth_from answer (k + length (leaves l)) r)

-- the requirements of the parts that are refused, and of nothing inside a part that is accepted
abbrev pub missing_from : (ℕ → Bool) → ℕ → Tree → List ℕ
missing_from answer k (Leaf r) = cond (answer k) [] (k ∷ [])
missing_from answer k (Join o l r) =
    cond (truth_from answer k (Join o l r)) []
    (missing_from answer k l ++ missing_from answer (k + length (leaves l)) r)

abbrev pub missing_of : Tree → List Bool → List ℕ
missing_of t answers = missing_from (answer_in answers) 0 t

-- accept what is listed beside what was accepted, and the expression is accepted
abbrev pub Cures : Tree → List Bool → List ℕ → Type 0
Cures t answers listed =
    (more : List Bool) → IsWithin answers more → list_all (answer_in more) listed ≡ true →
    truth_of t more ≡ true

-- while nothing of the list is accepted the expression is refused, whatever else is accepted
abbrev pub Binds : Tree → List Bool → List ℕ → Type 0
Binds t answers listed =
    truth_of t answers ≡ false → (other : List Bool) →
    list_all (λ k. not (answer_in other k)) listed ≡ true → truth_of t other ≡ false
