-- Bytes cut into lines.
use Rattle.std.specs.List.{flat_map}
use Rattle.std.specs.Prelude.{◌≡◌, ◌≢◌, All, ℕ, ◌==◌, if◌then◌else◌, List, [], ◌∷◌, ◌++◌}

-- the lines that a newline ends, without it, and what stands behind the last newline
pub record Cut : Type 0 where
  pub whole : List (List ℕ)
  pub rest : List ℕ

-- a byte that is no newline goes onto the first line, or onto the rest where there is no line
abbrev pub onto_first : ℕ → List (List ℕ) → List ℕ → Cut
onto_first b [] rest = record { whole = []; rest = b ∷ rest }
onto_first b (line ∷ lines) rest = record { whole = (b ∷ line) ∷ lines; rest = rest }

-- the bytes cut after each newline
abbrev pub cut : List ℕ → Cut
cut [] = record { whole = []; rest = [] }
cut (b ∷ bs) =
    let c : Cut = cut bs in
    if b == 10 then record { whole = [] ∷ c.whole; rest = c.rest } else onto_first b c.whole c.rest

-- a last piece without a newline is a line if it is not empty
abbrev pub last_line : List ℕ → List (List ℕ)
last_line [] = []
last_line (b ∷ bs) = (b ∷ bs) ∷ []

-- the lines of an input that has ended
abbrev pub lines_of : List ℕ → List (List ℕ)
lines_of bytes = (cut bytes).whole ++ last_line (cut bytes).rest

abbrev pub HasNoNewline : List ℕ → Type 0
HasNoNewline bytes = All (λ b. b ≢ 10) bytes

-- the bytes are these lines, each with its newline, and then the rest; no line has a newline in it,
-- nor has the rest
pub record IsCut (bytes : List ℕ) (c : Cut) : Type 0 where
  pub whole : flat_map (λ line. line ++ 10 ∷ []) c.whole ++ c.rest ≡ bytes
  pub lines : All (All (λ b. b ≢ 10)) c.whole
  pub rest : All (λ b. b ≢ 10) c.rest
