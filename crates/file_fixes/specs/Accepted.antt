-- What is said of the expressions of a file, and of what becomes of them.
use Rattle.std.specs.Prelude.{◌≡◌, ℕ, Bool, true, false, List, ◌++◌, All, Option, None, Some}
use Rattle.std.specs.List.{AllZip}
use Rattle.spdx_requirement.specs.Rows.{Rows}
use Rattle.manifests.specs.declared.form.Form.{Form}
use Rattle.manifests.specs.declared.site.Site.{Site}
use Rattle.manifests.specs.Sites.{AreSites}
use Rattle.file_fixes.specs.declared.Span.{Span}
use Rattle.file_fixes.specs.Fixing.{IsRead, IsTextAfter, texts_in}
use Rattle.file_fixes.specs.Mending.{Marked, marked}
use Rattle.file_fixes.specs.Spans.{line_spans, tag_spans}
use Rattle.file_fixes.specs.ManifestFixing as manifest
use Rattle.file_fixes.specs.ManifestFixing.{texts_of}
use Rattle.file_fixes.specs.declared.mended.Outcome.{Outcome}
use Rattle.file_fixes.specs.declared.mended.Parts.{Parts}
use Rattle.file_fixes.specs.declared.mended.Parts.TheVariants as parts
use Rattle.file_fixes.specs.Mended.{mark_in, without_mark}

-- ---- nothing is left

-- each expression of the old text stays or is replaced by its fix, and each that stands in the new
-- one is accepted
pub record AreAccepted (c : Rows) (old : Marked) (new : List ℕ) : Type 0 where
  pub spans : List Span
  pub each : AllZip (IsTextAfter c) (texts_in old) (texts_in (marked new spans))
  pub read : All (IsRead c) (texts_in (marked new spans))

-- so it is of what a manifest declares
pub record AreDeclaredAccepted (c : Rows) (form : Form) (old new : List ℕ) : Type 0 where
  pub sites : List Site
  pub declared : AreSites form old sites
  pub again : List Site
  pub declared_again : AreSites form new again
  pub each : AllZip (manifest.IsTextAfter c form) (texts_of sites) (texts_of again)
  pub read : All (manifest.IsRead c form) (texts_of again)

-- a byte order mark before it stays; a file of no form stays
abbrev pub AcceptsDeclared : Rows → Option Form → List ℕ → List ℕ → Type 0
AcceptsDeclared c None old new = new ≡ old
AcceptsDeclared c (Some form) old new =
    (behind : List ℕ) × AreDeclaredAccepted c form (without_mark old) behind ×
    (new ≡ mark_in old ++ behind)

abbrev pub AcceptsTags : Bool → Rows → List ℕ → List ℕ → List ℕ → Type 0
AcceptsTags true c path old new = AreAccepted c (marked old (tag_spans path old)) new
AcceptsTags false c path old new = new ≡ old

-- so it is of these parts of a file: of what it declares, and then of its tags
abbrev pub Accepts : Rows → Parts → List ℕ → List ℕ → List ℕ → Type 0
Accepts c parts.Lines path old new = AreAccepted c (marked old (line_spans old)) new
Accepts c (parts.Source form tags) path old new =
    (between : List ℕ) × AcceptsDeclared c form old between × AcceptsTags tags c path between new

-- ---- nothing is needed

-- the form's reader accepts what the file declares
abbrev pub ReadsDeclared : Rows → Option Form → List ℕ → Type 0
ReadsDeclared c None bytes = Unit {0}
ReadsDeclared c (Some form) bytes = (sites : List Site) → AreSites form (without_mark bytes) sites →
    All (manifest.IsRead c form) (texts_of sites)

-- each of these expressions is accepted
abbrev pub ReadsTags : Bool → Rows → List ℕ → List ℕ → Type 0
ReadsTags true c path bytes = All (IsRead c) (texts_in (marked bytes (tag_spans path bytes)))
ReadsTags false c path bytes = Unit {0}

abbrev pub Reads : Rows → Parts → List ℕ → List ℕ → Type 0
Reads c parts.Lines path bytes = All (IsRead c) (texts_in (marked bytes (line_spans bytes)))
Reads c (parts.Source form tags) path bytes =
    ReadsDeclared c form bytes × ReadsTags tags c path bytes

-- the file stays, and nothing is left
abbrev pub Stays : Outcome → Type 0
Stays o = (o.bytes ≡ None) × (o.is_left ≡ false)
