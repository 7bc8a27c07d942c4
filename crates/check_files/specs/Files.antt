-- What is done with a file below a folder.
use Rattle.std.specs.Prelude.{◌≡◌, ◌⊎◌, ℕ, ◌==◌, ◌&&◌, ◌||◌, Bool, true, false, not, List, [], ◌++◌, Option, Some, None, is_some}
use Rattle.manifests.specs.declared.form.Form.{Form}
use Rattle.manifests.specs.declared.site.Site.{Site}
use Rattle.shelves.specs.Shelf.{Shelved, to_read}
use Rattle.source_trees.specs.Readings.{form_below}
use Rattle.source_trees.specs.declared.reading.Taken.{Taken}
use Rattle.spdx_check.specs.declared.check.Check.{Check}
use Rattle.check_sources.specs.Findings.{Source}
use Rattle.check_sources.specs.Decoding.{source_bytes, without_mark}
use Rattle.check_files.specs.declared.trouble.CheckTrouble.{CheckTrouble}
use Rattle.check_files.specs.Noted.{Grows, IsUseOfManifest, IsUseOfTags, NotesBare, Notes}
use Rattle.check_files.specs.Parts.{AreTagsChecked, IsManifestChecked, source_at}
use Rattle.check_files.specs.Passing.{IsPassed}
use Rattle.check_files.specs.Tally.{Tally, once}

-- what is found in a manifest is written, and the license texts are noted that the expressions need
-- at the same sites; of a file that is refused as a whole none are
pub record IsManifestPart (check : Check) (folder : Option (List ℕ)) (form : Form)
    (source : Source) (old : Tally) (used : List (List ℕ)) (text : List ℕ) (count : ℕ)
    (new : Tally) (used' : List (List ℕ)) : Type 0 where
  pub sites : Option (List Site)
  pub checks : IsManifestChecked check form source old sites text count new
  pub notes : Grows used used' (IsUseOfManifest check folder form sites)

-- what is no manifest declares nothing
abbrev pub DeclaresPart : Check → Option (List ℕ) → Option Form → List ℕ → List ℕ →
    Tally → List (List ℕ) → List ℕ → ℕ → Tally → List (List ℕ) → Type 0
DeclaresPart check folder None path bytes old used text count new used' =
    (text ≡ []) × (count ≡ 0) × (new ≡ old) × (used' ≡ used)
DeclaresPart check folder (Some form) path bytes old used text count new used' =
    IsManifestPart check folder form (source_at path (without_mark bytes)) old used text count
    new used'

-- so it is with its tags, where they are taken
abbrev pub TagsPart : Check → Option (List ℕ) → Bool → List ℕ → List ℕ →
    Tally → List (List ℕ) → List ℕ → ℕ → Tally → List (List ℕ) → Type 0
TagsPart check folder false path bytes old used text count new used' =
    (text ≡ []) × (count ≡ 0) × (new ≡ old) × (used' ≡ used)
TagsPart check folder true path bytes old used text count new used' =
    AreTagsChecked check (source_at path (source_bytes bytes)) old text count new
    × Grows used used' (IsUseOfTags check folder (source_at path (source_bytes bytes)))

-- a file without any expression may be one without a license
abbrev pub NotesFile : Bool → Shelved → Option (List ℕ) → List ℕ → List ℕ →
    List (List ℕ) → List (List ℕ) → Type 0
NotesFile true s folder path bytes old new = NotesBare s folder path bytes old new
NotesFile false s folder path bytes old new = new ≡ old

-- both a manifest and a tag have an expression
abbrev pub has_both : ℕ → ℕ → Bool
has_both declared tagged = not (declared == 0) && not (tagged == 0)

-- what a file declares, if it is a manifest, and then its tags
pub record IsFileChecked (s : Shelved) (check : Check) (t : Taken) (folder : Option (List ℕ))
    (path bytes : List ℕ) (old : Tally) (noted : Notes) (text : List ℕ) (new : Tally)
    (noted' : Notes) : Type 0 where
  pub declared : List ℕ
  pub declared_count : ℕ
  pub between : Tally
  pub used : List (List ℕ)
  pub tagged : List ℕ
  pub tagged_count : ℕ
  pub behind : Tally
  pub declares : DeclaresPart check folder (form_below t path) path bytes old noted.used
      declared declared_count between used
  pub tags : TagsPart check folder t.tags path bytes between used tagged tagged_count behind
      noted'.used
  pub counts : new ≡ once (has_both declared_count tagged_count) behind
  pub text_is : text ≡ declared ++ tagged
  pub untagged : NotesFile ((declared_count == 0) && (tagged_count == 0)) s folder path bytes
      noted.untagged noted'.untagged
  pub left_behind : noted'.left_behind ≡ noted.left_behind

-- something of the file is taken
abbrev pub is_wanted : Taken → List ℕ → Bool
is_wanted t path = t.tags || is_some (form_below t path)

-- it is read and checked, or else passed over; nothing is done of which nothing is taken
abbrev pub IsStepBy : Bool → Shelved → Check → Taken → Option (List ℕ) → List ℕ → Tally → Notes →
    List ℕ → List CheckTrouble → Tally → Notes → Type 0
IsStepBy false s check t folder path old noted text told new noted' =
    (text ≡ []) × (told ≡ []) × (new ≡ old) × (noted' ≡ noted)
IsStepBy true s check t folder path old noted text told new noted' =
    ((bytes : List ℕ) × s.Holds path bytes
    × IsFileChecked s check t folder path bytes old noted text new noted' × (told ≡ []))
    ⊎ (IsPassed path (s.Fails to_read path) old text told new × (noted' ≡ noted))

abbrev pub IsFileStep : Shelved → Check → Taken → Option (List ℕ) → List ℕ → Tally → Notes →
    List ℕ → List CheckTrouble → Tally → Notes → Type 0
IsFileStep s check t folder path old noted text told new noted' =
    IsStepBy (is_wanted t path) s check t folder path old noted text told new noted'
