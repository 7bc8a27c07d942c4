-- Texts of several things, one behind the other.
use Rattle.std.specs.Prelude.{ℕ, List, [], ◌∷◌, ◌++◌, codes, flat_map}

-- the text has what is told of each of these, in their order, and nothing else
pub data AreTexts {A : Type 0} (IsText : A → List ℕ → Type 0) : List A → List ℕ → Type 0 where
  none : AreTexts IsText [] []
  one : {x : A} {xs : List A} {text rest : List ℕ} → IsText x text → AreTexts IsText xs rest →
      AreTexts IsText (x ∷ xs) (text ++ rest)

-- a line of these parts
unfoldable pub line : List (List ℕ) → List ℕ
line parts = flat_map (λ part. part) parts ++ codes "\n"
