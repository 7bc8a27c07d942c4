-- What becomes of the bytes of a file.
use Rattle.std.specs.Prelude.{◌≡◌, ℕ, ◌||◌, Bool, true, false, List, [], ◌∷◌, ◌++◌, Option, None, Some, take, drop, option_map, nat_eq, if◌then◌else◌}
use Rattle.std.specs.Global.{Vec}
use Rattle.std.specs.List.{starts_with}
use Rattle.std.specs.Option.{option_or}
use Rattle.spdx_requirement.specs.Rows.{Rows}
use Rattle.manifests.specs.declared.form.Form.{Form}
use Rattle.manifests.specs.declared.site.Fault.{Fault}
use Rattle.manifests.specs.declared.site.ManifestError.TheVariants.{Refused}
use Rattle.check_sources.specs.Lines.{line_of, within}
use Rattle.file_fixes.specs.declared.FixedText.{FixedText}
use Rattle.file_fixes.specs.Fixing.{IsFixed, bytes_after}
use Rattle.file_fixes.specs.Mending.{Marked, marked}
use Rattle.file_fixes.specs.Spans.{line_spans, tag_spans}
use Rattle.file_fixes.specs.ManifestFixing as manifest
use Rattle.file_fixes.specs.declared.FixedManifest.{FixedManifest}
use Rattle.file_fixes.specs.declared.mended.ManifestFault.{ManifestFault}
use Rattle.file_fixes.specs.declared.mended.MendError.{MendError}
use Rattle.file_fixes.specs.declared.mended.MendError.TheVariants as error
use Rattle.file_fixes.specs.declared.mended.Outcome.{Outcome}
use Rattle.file_fixes.specs.declared.mended.Parts.{Parts}
use Rattle.file_fixes.specs.declared.mended.Parts.TheVariants as parts

abbrev pub bytes_in : Option (Vec ℕ) → Option (List ℕ)
bytes_in bytes = option_map (λ (v : Vec ℕ). v.items) bytes

-- of the expressions of a text each that has a fix is replaced by it
abbrev pub IsTextMended : Rows → Marked → Outcome → Type 0
IsTextMended c old o = IsFixed c old (record { bytes = o.bytes; is_left = o.is_left })

-- ---- what a manifest declares

-- how long the byte order mark at the front of bytes is
abbrev pub mark_len : List ℕ → ℕ
mark_len bytes = if starts_with nat_eq bytes (239 ∷ 187 ∷ 191 ∷ []) then 3 else 0

abbrev pub mark_in : List ℕ → List ℕ
mark_in bytes = take (mark_len bytes) bytes

abbrev pub without_mark : List ℕ → List ℕ
without_mark bytes = drop (mark_len bytes) bytes

-- the bytes behind a mark, where there are any
abbrev pub behind : List ℕ → Option (List ℕ) → Option (List ℕ)
behind mark bytes = option_map (λ new. mark ++ new) bytes

-- each expression that the manifest declares, and that has a fix, is replaced by it; a byte order
-- mark before it stays
pub record IsManifest (c : Rows) (form : Form) (bytes : List ℕ) (o : Outcome) : Type 0 where
  pub fixed : FixedManifest
  pub fixes : manifest.IsFixed c form (without_mark bytes) fixed.bytes fixed.is_left
  pub bytes_are : bytes_in o.bytes ≡ behind (mark_in bytes) (bytes_in fixed.bytes)
  pub left_is : o.is_left ≡ fixed.is_left

-- a file of no form declares nothing
abbrev pub IsDeclared : Rows → Option Form → List ℕ → Outcome → Type 0
IsDeclared c None bytes o = (o.bytes ≡ None) × (o.is_left ≡ false)
IsDeclared c (Some form) bytes o = IsManifest c form bytes o

-- ---- tags

-- those of the bytes that come of what is declared
pub record AreTagged (c : Rows) (path bytes : List ℕ) (declared o : Outcome) : Type 0 where
  pub tagged : FixedText
  pub fixes : IsFixed c (marked (bytes_after bytes declared.bytes)
      (tag_spans path (bytes_after bytes declared.bytes))) tagged
  pub bytes_are : o.bytes ≡ option_or tagged.bytes declared.bytes
  pub left_is : o.is_left ≡ (declared.is_left || tagged.is_left)

-- what is declared, and then the tags, where they are wanted
abbrev pub IsSource : Rows → Option Form → Bool → List ℕ → List ℕ → Outcome → Type 0
IsSource c form true path bytes o =
    (declared : Outcome) × IsDeclared c form bytes declared × AreTagged c path bytes declared o
IsSource c form false path bytes o = IsDeclared c form bytes o

-- ---- a file

-- what becomes of these parts of a file at a path
abbrev pub IsMended : Rows → Parts → List ℕ → List ℕ → Outcome → Type 0
IsMended c parts.Lines path bytes o = IsTextMended c (marked bytes (line_spans bytes)) o
IsMended c (parts.Source form tags) path bytes o = IsSource c form tags path bytes o

-- ---- why it isn't told

-- the number of the line that a place is in; one past the end counts as the end
abbrev pub line_at : List ℕ → ℕ → ℕ
line_at bytes offset = line_of bytes (within bytes offset)

-- what is wrong in a manifest, and on which line behind a byte order mark
pub record IsFaultOf (c : Rows) (form : Form) (bytes : List ℕ) (f : ManifestFault) :
    Type 0 where
  pub fault : Fault
  pub is : manifest.IsErrorOf c form (without_mark bytes) (Refused fault)
  pub reason_is : f.reason ≡ fault.reason
  pub line_is : f.line ≡ line_at (without_mark bytes) fault.offset

-- nothing is said of memory
abbrev pub IsNoManifest : Rows → Form → List ℕ → MendError → Type 0
IsNoManifest c form bytes (error.Manifest f) = IsFaultOf c form bytes f
IsNoManifest c form bytes error.Memory = Unit {0}

abbrev pub IsNotDeclared : Rows → Option Form → List ℕ → MendError → Type 0
IsNotDeclared c (Some form) bytes e = IsNoManifest c form bytes e
IsNotDeclared c None bytes e = e ≡ error.Memory

abbrev pub IsUnmended : Rows → Parts → List ℕ → MendError → Type 0
IsUnmended c parts.Lines bytes e = e ≡ error.Memory
IsUnmended c (parts.Source form tags) bytes e = IsNotDeclared c form bytes e
