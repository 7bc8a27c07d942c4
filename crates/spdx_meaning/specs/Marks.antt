-- Marks at numbers.
use Rattle.std.specs.Prelude.{◌≡◌, ℕ, ◌<◌, ◌==◌, Bool, cond, List, length, slice_index}
use Rattle.selections.specs.Sets.{is_in}

-- whether the number has this mark
abbrev pub has_mark : List ℕ → ℕ → ℕ → Bool
has_mark marks mark k = slice_index marks k == mark

abbrev pub HasNoMark : List ℕ → Type 0
HasNoMark marks = (k : ℕ) → slice_index marks k ≡ 0

-- the numbers of the set have the mark, and the others what they had
abbrev pub AreMarked : List ℕ → List ℕ → ℕ → List ℕ → Type 0
AreMarked old set mark new =
    (k : ℕ) → k < length old → slice_index new k ≡ cond (is_in set k) mark (slice_index old k)
