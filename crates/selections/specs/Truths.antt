-- A stack of truths, the newest first, and how it lies in words.
use Rattle.std.specs.Prelude.{ℕ, zero, suc, ◌/◌, ◌%◌, ◌==◌, Bool, List, [], ◌∷◌}

-- the truths, the newest first, and how many fit
pub record Stack : Type 0 where
  pub items : List Bool
  pub room : ℕ

-- the lowest n bits of a word, the lowest first, and then the rest
abbrev pub bits : ℕ → ℕ → List Bool → List Bool
bits zero w rest = rest
bits (suc n) w rest = (w % 2 == 1) ∷ bits n (w / 2) rest

-- all 64 bits of a word, and then the rest
unfoldable pub word_bits : ℕ → List Bool → List Bool
word_bits w rest = bits 64 w rest

-- the bits of full words, of which the newest is the last, and then the rest
abbrev pub words_bits : List ℕ → List Bool → List Bool
words_bits [] rest = rest
words_bits (w ∷ ws) rest = words_bits ws (word_bits w rest)

-- the two newest become one
abbrev pub join_newest : (Bool → Bool → Bool) → List Bool → List Bool
join_newest join (right ∷ left ∷ rest) = join left right ∷ rest
join_newest join (x ∷ []) = x ∷ []
join_newest join [] = []
