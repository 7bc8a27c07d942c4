-- What is written of a file at which a check breaks off.
use Rattle.std.specs.Prelude.{◌≡◌, ◌⊎◌, ℕ, Bool, true, false, List, [], ◌++◌, Option, Some, None}
use Rattle.line_engine.specs.declared.lines.Summary.{Summary}
use Rattle.manifests.specs.declared.form.Form.{Form}
use Rattle.manifests.specs.declared.site.Site.{Site}
use Rattle.shelves.specs.Shelf.{Shelved}
use Rattle.source_trees.specs.Readings.{form_below}
use Rattle.source_trees.specs.declared.reading.Taken.{Taken}
use Rattle.spdx_check.specs.declared.check.Check.{Check}
use Rattle.check_sources.specs.Findings.{ChecksWritten, Source}
use Rattle.check_sources.specs.Manifests.{ChecksManifest}
use Rattle.check_sources.specs.Tags.{tagged}
use Rattle.check_sources.specs.Counted.{written}
use Rattle.check_sources.specs.Decoding.{source_bytes, without_mark}
use Rattle.check_files.specs.declared.trouble.CheckTrouble.{CheckTrouble}
use Rattle.check_files.specs.Files.{DeclaresPart}
use Rattle.check_files.specs.Noted.{Notes}
use Rattle.check_files.specs.Parts.{source_at}
use Rattle.check_files.specs.Tally.{Tally, is_clean}

-- a beginning of a text of which this holds; or nothing, where no such text is had
abbrev pub IsBeginning : (List ℕ → Type 0) → List ℕ → Type 0
IsBeginning Is text = (text ≡ []) ⊎ ((rest : List ℕ) × Is (text ++ rest))

-- ---- the parts of a file

-- what is found in the expressions that a manifest declares
pub record IsManifestText (check : Check) (form : Form) (source : Source) (old : Tally)
    (text : List ℕ) : Type 0 where
  pub sites : Option (List Site)
  pub found : List ℕ
  pub summary : Summary
  pub finds : ChecksManifest check (is_clean old) form source sites found summary
  pub text_is : text ≡ written summary found

-- what is found in the expressions behind the tags of a file
pub record IsTagText (check : Check) (source : Source) (old : Tally) (text : List ℕ) : Type 0 where
  pub found : List ℕ
  pub summary : Summary
  pub finds : ChecksWritten check (is_clean old) source (tagged source) found summary
  pub text_is : text ≡ written summary found

-- ---- a file below a folder

-- what is no manifest declares nothing
abbrev pub IsDeclaredText : Check → Option Form → List ℕ → List ℕ → Tally → List ℕ → Type 0
IsDeclaredText check None path bytes old text = text ≡ []
IsDeclaredText check (Some form) path bytes old text =
    IsManifestText check form (source_at path (without_mark bytes)) old text

-- its tags, where they are taken
abbrev pub IsTaggedText : Check → Bool → List ℕ → List ℕ → Tally → List ℕ → Type 0
IsTaggedText check false path bytes old text = text ≡ []
IsTaggedText check true path bytes old text =
    IsTagText check (source_at path (source_bytes bytes)) old text

-- a beginning of what is found in what it declares; or all of that, and a beginning of what is
-- found behind its tags
pub data IsTextBegun (check : Check) (t : Taken) (folder : Option (List ℕ)) (path bytes : List ℕ)
    (old : Tally) (noted : Notes) : List ℕ → Type 0 where
  in_declared : (text : List ℕ) →
      IsBeginning (IsDeclaredText check (form_below t path) path bytes old) text →
      IsTextBegun check t folder path bytes old noted text
  in_tags : (declared own : List ℕ) (count : ℕ) (between : Tally) (used : List (List ℕ)) →
      DeclaresPart check folder (form_below t path) path bytes old noted.used declared count
      between used → IsBeginning (IsTaggedText check t.tags path bytes between) own →
      IsTextBegun check t folder path bytes old noted (declared ++ own)

-- it is read, and that is written; or nothing is. Nothing is told of it
abbrev pub IsFileBegun : Shelved → Check → Taken → Option (List ℕ) → List ℕ → Tally → Notes →
    List ℕ → List CheckTrouble → Type 0
IsFileBegun s check t folder path old noted text told = (told ≡ []) × ((text ≡ [])
    ⊎ ((bytes : List ℕ) × s.Holds path bytes
    × IsTextBegun check t folder path bytes old noted text))
