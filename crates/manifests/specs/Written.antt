-- Which declared texts of a manifest of JSON are sure to be found, and to be replaced.
use Rattle.std.specs.Prelude.{◌≡◌, ◌≢◌, ℕ, ◌<◌, ◌≤◌, ◌^◌, Bool, true, false, List, Some, All, length, slice_get}
use Rattle.std.specs.Str.{IsUtf8}
use Rattle.serde_json.specs.Data.{Data}
use Rattle.serde_json.specs.Read.{read}
use Rattle.text_places.specs.Marks.{mark_text}
use Rattle.manifests.specs.declared.form.Form.{Form}
use Rattle.manifests.specs.declared.form.Form.TheVariants.{Cargo, Pyproject, Reuse, Plain}
use Rattle.manifests.specs.Json.{license_texts}
use Rattle.manifests.specs.Sites.{is_expression}

-- a manifest of the form is written in JSON
abbrev pub is_json : Form → Bool
is_json Cargo = false
is_json Pyproject = false
is_json Reuse = false
is_json (Plain form) = false
is_json form = true

-- the byte is no quote, no backslash and no control character
abbrev pub StandsAsItIs : ℕ → Type 0
StandsAsItIs byte = (byte ≢ 34) × (byte ≢ 92) × (32 ≤ byte)

-- so the text stands in quotes as it is
abbrev pub NeedsNoEscape : List ℕ → Type 0
NeedsNoEscape text = All StandsAsItIs text

-- the text marks no literal, as `#7` does
abbrev pub IsNoMark : List ℕ → Type 0
IsNoMark text = (number : ℕ) → text ≢ mark_text number

-- the bytes are a manifest of JSON, which is read as this document
pub record IsReadAsJson (form : Form) (bytes : List ℕ) (document : Data) : Type 0 where
  pub json : is_json form ≡ true
  pub utf8 : IsUtf8 bytes
  pub reads : read bytes ≡ Some document

-- the declared text of that number, which is no mark, may be replaced by the new one, which needs
-- no escape
pub record MayBecome (form : Form) (bytes : List ℕ) (number : ℕ) (new : List ℕ) : Type 0 where
  pub document : Data
  pub manifest : IsReadAsJson form bytes document
  pub small : length bytes < 2 ^ 64
  pub old : List ℕ
  pub declared : slice_get (license_texts document) number ≡ Some old
  pub unmarked : IsNoMark old
  pub utf8 : IsUtf8 new
  pub plain : NeedsNoEscape new

-- no declared text of the document that is an expression is a mark
abbrev pub HasNoMark : Form → Data → Type 0
HasNoMark form document = (number : ℕ) (text : List ℕ) →
    slice_get (license_texts document) number ≡ Some text → is_expression form text ≡ true →
    IsNoMark text

-- the bytes, which are no more than memory holds, are a manifest of JSON that declares no mark
pub record IsUnmarked (form : Form) (bytes : List ℕ) : Type 0 where
  pub document : Data
  pub manifest : IsReadAsJson form bytes document
  pub small : length bytes < 2 ^ 63
  pub unmarked : HasNoMark form document
