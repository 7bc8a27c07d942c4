-- A text whose expressions are replaced by their fixes.
use Rattle.std.specs.Prelude.{◌≡◌, ℕ, ◌+◌, ◌≤◌, List, [], ◌∷◌, ◌++◌, Option, None, Some, is_some, unwrap_or, length, map, All, count_by}
use Rattle.std.specs.List.{flat_map}
use Rattle.std.specs.Str.{IsUtf8}
use Rattle.spdx_requirement.specs.Rows.{Rows}
use Rattle.spdx_canonical.specs.Fix.{IsFix, HasNoFix}
use Rattle.file_fixes.specs.declared.Span.{Span}

-- a text, and where expressions stand in it
pub record Marked : Type 0 where
  pub bytes : List ℕ
  pub spans : List Span

abbrev pub marked : List ℕ → List Span → Marked
marked bytes spans = record { bytes = bytes; spans = spans }

-- an expression, and what stands before it, back to the expression before
pub record Piece : Type 0 where
  pub before : List ℕ
  pub text : List ℕ

-- where the expression of a piece stands that begins at this offset
abbrev pub span_at : ℕ → Piece → Span
span_at offset p =
    record { start = offset + length p.before; end = offset + length p.before + length p.text }

-- the same of pieces, the first of which begins at this offset
abbrev pub spans_from : ℕ → List Piece → List Span
spans_from offset [] = []
spans_from offset (p ∷ ps) = span_at offset p ∷ spans_from (span_at offset p).end ps

-- the text is these pieces and the rest behind them, and the spans are the places of the
-- expressions
pub record IsCutAtSpans (text : Marked) (pieces : List Piece) (rest : List ℕ) : Type 0 where
  pub whole : flat_map (λ p. p.before ++ p.text) pieces ++ rest ≡ text.bytes
  pub places : spans_from 0 pieces ≡ text.spans

-- the spans lie between these offsets, in order and apart from one another
abbrev pub AreInOrder : ℕ → List Span → ℕ → Type 0
AreInOrder low [] high = low ≤ high
AreInOrder low (s ∷ ss) high = (low ≤ s.start) × (s.start ≤ s.end) × AreInOrder s.end ss high

-- the fix of bytes, which are no text perhaps, or none where they have none
abbrev pub IsFixOfBytes : Rows → List ℕ → Option (List ℕ) → Type 0
IsFixOfBytes c bytes None = IsUtf8 bytes → HasNoFix c bytes
IsFixOfBytes c bytes (Some fix) = IsUtf8 bytes × IsFix c bytes fix

-- an expression with what stands before it, and its fix
pub record Site : Type 0 where
  pub before : List ℕ
  pub text : List ℕ
  pub fix : Option (List ℕ)

abbrev pub old_piece : Site → Piece
old_piece s = record { before = s.before; text = s.text }

-- the fix in place of the expression, if it has one
abbrev pub new_piece : Site → Piece
new_piece s = record { before = s.before; text = unwrap_or s.fix s.text }

-- the new text is the old one with each expression that has a fix replaced by it, of which there
-- are `count`, and its spans are the places of the same expressions
pub record Mends (c : Rows) (old new : Marked) (count : ℕ) : Type 0 where
  pub sites : List Site
  pub rest : List ℕ
  pub fixes : All (λ s. IsFixOfBytes c s.text s.fix) sites
  pub was : IsCutAtSpans old (map old_piece sites) rest
  pub is : IsCutAtSpans new (map new_piece sites) rest
  pub counted : count ≡ count_by (λ s. is_some s.fix) sites

-- mended again it stays as it is
abbrev pub IsSettled : Rows → Marked → Type 0
IsSettled c text = (new : Marked) (count : ℕ) → Mends c text new count → (new ≡ text) × (count ≡ 0)
