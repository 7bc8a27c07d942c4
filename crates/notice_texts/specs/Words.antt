-- The words of a text, and which texts are the same up to white space.
use Rattle.std.specs.Prelude.{◌≡◌, ◌↔◌, ℕ, Bool, true, not, ◌==◌, List, [], ◌∷◌, ◌++◌, bytes_eq, length, filter, flat_map, if◌then◌else◌}
use Rattle.std.specs.List.{slice_split}
use Rattle.std.specs.Char.{is_ascii_whitespace}

abbrev pub is_some_word : List ℕ → Bool
is_some_word word = not (length word == 0)

-- what stands between blanks, tabs and ends of lines and of pages
abbrev pub words : List ℕ → List (List ℕ)
words bytes = filter is_some_word (slice_split is_ascii_whitespace bytes)

abbrev pub line : List ℕ → List ℕ
line word = word ++ 10 ∷ []

-- a piece as a line of its own, or nothing where it is empty
abbrev pub line_of : List ℕ → List ℕ
line_of piece = if is_some_word piece then line piece else []

-- the words, a line each
abbrev pub lines_of_words : List ℕ → List ℕ
lines_of_words bytes = flat_map line (words bytes)

-- the same but for white space
abbrev pub is_same : List ℕ → List ℕ → Bool
is_same a b = bytes_eq (lines_of_words a) (lines_of_words b)

-- two texts are the same exactly if they have the same words in the same order
abbrev pub SameWords : Type 0
SameWords = (a b : List ℕ) → (is_same a b ≡ true) ↔ (words a ≡ words b)
