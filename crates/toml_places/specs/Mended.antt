-- A text with another literal in it.
use Rattle.std.specs.Prelude.{◌≡◌, ℕ, ◌==◌, List, ◌∷◌, ◌++◌, Some, option_map, take, drop, slice_index, IsUtf8, if◌then◌else◌}
use Rattle.text_places.specs.declared.Span.{Span}
use Rattle.toml.specs.Data.{Members, table}
use Rattle.toml.specs.Parse.{parse_document}
use Rattle.toml_places.specs.declared.path.Step.{Step}
use Rattle.toml_places.specs.Paths.{set_at}
use Rattle.toml_places.specs.Places.{IsLiteral}

-- a single quote for a literal that begins with one, and a double one for any other
abbrev pub quote_of : ℕ → ℕ
quote_of first = if first == 39 then 39 else 34

-- the text with the new one, in quotes of the kind that stood there, in place of the span
abbrev pub with_literal : List ℕ → Span → List ℕ → List ℕ
with_literal text span new =
    let quote = quote_of (slice_index text span.start) in
    take span.start text ++ (quote ∷ (new ++ (quote ∷ drop span.end text)))

-- a literal of the text at the path is replaced, and the answer is read as the document with only
-- that text changed
pub record IsMended (text : List ℕ) (document : Members) (steps : List Step) (span : Span)
    (new answer : List ℕ) : Type 0 where
  pub replaced : IsLiteral text document steps span
  pub spliced : answer ≡ with_literal text span new
  pub is_text : IsUtf8 answer
  pub reads : option_map table (parse_document answer) ≡ Some (set_at steps new (table document))
