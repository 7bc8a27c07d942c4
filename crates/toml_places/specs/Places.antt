-- Where a text of a document stands.
use Rattle.std.specs.Prelude.{◌≡◌, ◌≢◌, ℕ, ◌≤◌, List, [], ◌∷◌, Option, Some, ⊤, length, slice_range, slice_get, IsSomeAnd, IfSome, IfNone, IsUtf8}
use Rattle.text_places.specs.declared.Span.{Span}
use Rattle.text_places.specs.Marks.{mark_text, marked}
use Rattle.toml.specs.Data.{Members, string}
use Rattle.toml.specs.Parse.{parse_document, parse_value}
use Rattle.toml_places.specs.declared.path.Step.{Step}
use Rattle.toml_places.specs.declared.path.Path.{Path}
use Rattle.toml_places.specs.Literals.{literals}
use Rattle.toml_places.specs.Paths.{text_at}

-- the span cuts no character, and its bytes, read alone, are the text that the document has at the
-- path
pub record IsLiteral (text : List ℕ) (document : Members) (steps : List Step)
    (span : Span) : Type 0 where
  pub ordered : span.start ≤ span.end
  pub within : span.end ≤ length text
  pub whole : IsUtf8 (slice_range text span.start span.end)
  pub value : IsSomeAnd (text_at steps document)
      (λ value. parse_value (slice_range text span.start span.end) ≡ Some (string value))

-- once each literal is replaced by its mark, the text is read as a document that has the mark of
-- this number at the path, which it had not before
pub record IsMeant (text : List ℕ) (document : Members) (steps : List Step)
    (number : ℕ) : Type 0 where
  pub marks : Members
  pub is_text : IsUtf8 (marked text (literals text))
  pub reads : parse_document (marked text (literals text)) ≡ Some marks
  pub after : text_at steps marks ≡ Some (mark_text number)
  pub before : text_at steps document ≢ Some (mark_text number)

-- the span is the literal of the text that the document has at the path
pub record Stands (text : List ℕ) (document : Members) (steps : List Step)
    (span : Span) : Type 0 where
  pub literal : IsLiteral text document steps span
  pub number : ℕ
  pub numbered : slice_get (literals text) number ≡ Some span
  pub meant : IsMeant text document steps number

-- no literal is
abbrev pub StandsNowhere : List ℕ → Members → List Step → Type 0
StandsNowhere text document steps = (span : Span) → Stands text document steps span → ⊥

-- the place that was found for a path, or that there is none
abbrev pub IsPlace : List ℕ → Members → List Step → Option Span → Type 0
IsPlace text document steps place =
    IfSome place (Stands text document steps) ×
    IfNone place (StandsNowhere text document steps)

-- each place that was found for a path
abbrev pub ArePlaces : List ℕ → Members → List Path → List (Option Span) → Type 0
ArePlaces text document [] [] = ⊤
ArePlaces text document (path ∷ paths) (place ∷ places) =
    IsPlace text document path.steps.items place × ArePlaces text document paths places
ArePlaces text document _ _ = ⊥
