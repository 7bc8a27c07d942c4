-- An input that is cut behind newlines is answered piece by piece.
use Rattle.std.specs.Prelude.{◌≡◌, ℕ, ◌+◌, ◌⊎◌, List, [], ◌∷◌, ◌++◌, length, count_by}
use Rattle.line_engine.specs.Rule.{Rule}
use Rattle.line_engine.specs.Lines.{lines_of}
use Rattle.line_engine.specs.Output.{output_of}

-- nothing, or its last byte is a newline
abbrev pub EndsLine : List ℕ → Type 0
EndsLine bytes = (bytes ≡ []) ⊎ ((front : List ℕ) × (bytes ≡ front ++ 10 ∷ []))

-- the output for two pieces is that for the one and then that for the other, and the lines and the
-- refused ones add up
pub record Splits (rule : Rule) (a b : List ℕ) : Type 0 where
  pub output : output_of rule (a ++ b) ≡ output_of rule a ++ output_of rule b
  pub lines : length (lines_of (a ++ b)) ≡ length (lines_of a) + length (lines_of b)
  pub refused : count_by rule.refuses (lines_of (a ++ b)) ≡ count_by rule.refuses (lines_of a) +
      count_by rule.refuses (lines_of b)

abbrev pub SplitsAtLines : Rule → Type 0
SplitsAtLines rule = (a b : List ℕ) → EndsLine a → Splits rule a b
