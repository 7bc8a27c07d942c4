-- Texts of others in a line, and in a cell of a table.
use Rattle.std.specs.Prelude.{ℕ, List, [], ◌∷◌, ◌++◌, ◌==◌, ◌≢◌, All, if◌then◌else◌, codes, flat_map}
use Rattle.foreign_text.specs.declared.sinks.Sink.TheVariants.{Line}
use Rattle.foreign_text.specs.Written.{text_for}

-- in a cell what would end it or its code span stands as its number
abbrev pub cell_byte : ℕ → List ℕ
cell_byte b = if b == 96 then codes "\\u{60}" else if b == 124 then codes "\\u{7c}" else b ∷ []

abbrev pub cell_text : List ℕ → List ℕ
cell_text text = flat_map cell_byte (text_for Line text)

-- a text in a code span; no code span is empty
abbrev pub span : List ℕ → List ℕ
span [] = []
span (b ∷ bs) = codes "`" ++ (cell_text (b ∷ bs) ++ codes "`")

-- no backquote ends a code span of it, and no bar its cell
abbrev pub IsInside : List ℕ → Type 0
IsInside text = All (λ b. (b ≢ 96) × (b ≢ 124)) (cell_text text)
