-- What becomes of a text whose expressions are replaced by their fixes.
use Rattle.std.specs.Prelude.{◌≡◌, ◌⊎◌, ℕ, ◌-◌, ◌<◌, true, false, List, Option, Some, None, map, take, drop, All, Any}
use Rattle.std.specs.Global.{Vec}
use Rattle.std.specs.List.{AllZip}
use Rattle.std.specs.Str.{IsUtf8}
use Rattle.spdx_requirement.specs.Rows.{Rows}
use Rattle.spdx_lexer.specs.Modes.{strict}
use Rattle.spdx_canonical.specs.Fix.{Reads, IsFix}
use Rattle.file_fixes.specs.declared.Span.{Span}
use Rattle.file_fixes.specs.Mending.{Marked, marked, Mends}
use Rattle.file_fixes.specs.declared.FixedText.{FixedText}

-- strict reading accepts the bytes
abbrev pub IsRead : Rows → List ℕ → Type 0
IsRead c text = IsUtf8 text × Reads c strict text

-- strict reading refuses the bytes
abbrev pub IsRefused : Rows → List ℕ → Type 0
IsRefused c text = IsRead c text → ⊥

-- the bytes at a span
abbrev pub text_at : List ℕ → Span → List ℕ
text_at bytes span = take (span.end - span.start) (drop span.start bytes)

-- the expressions of a text
abbrev pub texts_in : Marked → List (List ℕ)
texts_in text = map (text_at text.bytes) text.spans

-- the new bytes are given where something is mended
abbrev pub IsGiven : List ℕ → ℕ → Option (Vec ℕ) → Type 0
IsGiven new count (Some bytes) = (0 < count) × (bytes.items ≡ new)
IsGiven new count None = count ≡ 0

-- each expression that has a fix is replaced by it, and something is left exactly if an expression
-- that stands there then is refused
pub record IsFixed (c : Rows) (old : Marked) (fixed : FixedText) : Type 0 where
  pub new : Marked
  pub count : ℕ
  pub mends : Mends c old new count
  pub given : IsGiven new.bytes count fixed.bytes
  pub left : fixed.is_left ≡ true → Any (IsRefused c) (texts_in new)
  pub whole : fixed.is_left ≡ false → All (IsRead c) (texts_in new)

-- the text that comes of it
abbrev pub bytes_after : List ℕ → Option (Vec ℕ) → List ℕ
bytes_after old (Some new) = new.items
bytes_after old None = old

-- what stands there now is what stood there, or its fix
abbrev pub IsTextAfter : Rows → List ℕ → List ℕ → Type 0
IsTextAfter c old new = (new ≡ old) ⊎ IsFix c old new

-- what is said of a text, and of what becomes of it
pub record FixLaws (c : Rows) (old : Marked) (fixed : FixedText) : Type 0 where
  -- where its expressions stand then
  pub spans : List Span
  -- each expression stays or is replaced by its fix
  pub each : AllZip (IsTextAfter c) (texts_in old)
      (texts_in (marked (bytes_after old.bytes fixed.bytes) spans))
  -- where every expression reads, the text stays, and nothing is left
  pub needless : All (IsRead c) (texts_in old) → (fixed.bytes ≡ None) × (fixed.is_left ≡ false)
  -- where nothing is left, every expression reads that stands there then
  pub whole : fixed.is_left ≡ false →
      All (IsRead c) (texts_in (marked (bytes_after old.bytes fixed.bytes) spans))
  -- fixed again, it stays, and the same is left
  pub settled : (again : FixedText) →
      IsFixed c (marked (bytes_after old.bytes fixed.bytes) spans) again →
      (again.bytes ≡ None) × (again.is_left ≡ fixed.is_left)
