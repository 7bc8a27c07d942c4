-- A text with another literal in it.
use Rattle.std.specs.Prelude.{◌≡◌, ℕ, List, ◌∷◌, ◌++◌, take, drop}
use Rattle.text_places.specs.declared.Span.{Span}
use Rattle.serde_json.specs.Data.{Data}
use Rattle.json_places.specs.declared.path.Step.{Step}
use Rattle.json_places.specs.Paths.{set_at}
use Rattle.json_places.specs.Places.{IsLiteral, IsRead}

-- the text with the new one, in quotes, in place of the span
abbrev pub with_literal : List ℕ → Span → List ℕ → List ℕ
with_literal text span new =
    take span.start text ++ (34 ∷ (new ++ (34 ∷ drop span.end text)))

-- a literal of the text at the path is replaced, and the answer is read as the document with the
-- new text there and no other change
pub record IsMended (text : List ℕ) (document : Data) (steps : List Step) (span : Span)
    (new answer : List ℕ) : Type 0 where
  pub replaced : IsLiteral text document steps span
  pub spliced : answer ≡ with_literal text span new
  pub reads : IsRead answer (set_at steps new document)
