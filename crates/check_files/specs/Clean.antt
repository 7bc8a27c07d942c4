-- What a count whose check passes says of a file.
use Rattle.std.specs.Prelude.{◌≡◌, ◌≢◌, ◌⊎◌, ℕ, Bool, true, false, List, [], ◌++◌, All, Option, Some, None}
use Rattle.std.specs.Str.{IsUtf8}
use Rattle.manifests.specs.declared.form.Form.{Form}
use Rattle.manifests.specs.declared.site.Site.{Site}
use Rattle.manifests.specs.Sites.{AreSites}
use Rattle.shelves.specs.Shelf.{Shelved}
use Rattle.source_trees.specs.Readings.{form_below}
use Rattle.source_trees.specs.declared.reading.Taken.{Taken}
use Rattle.spdx_lexer.specs.declared.token.ParseMode.{ParseMode}
use Rattle.spdx_canonical.specs.Fix.{Reads}
use Rattle.spdx_check.specs.declared.check.Check.{Check}
use Rattle.check_sources.specs.Findings.{Source}
use Rattle.check_sources.specs.Manifests.{AreInOrder, mode_in}
use Rattle.check_sources.specs.Tags.{tagged}
use Rattle.check_sources.specs.Written.{Written}
use Rattle.check_sources.specs.Decoding.{source_bytes, without_mark}
use Rattle.check_files.specs.Files.{is_wanted}
use Rattle.check_files.specs.Noted.{IsBare, IsUseOfManifest, IsUseOfTags, site_text}
use Rattle.check_files.specs.Parts.{source_at}
use Rattle.check_files.specs.Tally.{Tally}

-- nothing was passed over, no expression is refused, no license text is missing or not needed, and
-- no file is told to be without a license
pub record IsPassing (t : Tally) : Type 0 where
  pub is_whole : t.totals.is_short ≡ false
  pub none_refused : t.totals.refused ≡ 0
  pub none_owed : t.texts ≡ 0
  pub none_bare : t.bare ≡ 0

-- ---- expressions

-- the bytes are a text that a reader in this mode accepts
abbrev pub IsAccepted : Check → ParseMode → List ℕ → Type 0
IsAccepted check mode text = IsUtf8 text × Reads check.catalogue.now mode text

abbrev pub IsWrittenAccepted : Check → Written → Type 0
IsWrittenAccepted check w = IsAccepted check check.mode w.text

-- so is each expression behind the tags of a file
abbrev pub AreTagsClean : Check → Source → Type 0
AreTagsClean check source = All (IsWrittenAccepted check) (tagged source)

-- by a reader of manifests of this form
abbrev pub IsSiteAccepted : Check → Form → Site → Type 0
IsSiteAccepted check form site = IsAccepted check (mode_in form check.mode) (site_text site)

-- it is a manifest of its form, and each expression that it declares is accepted
pub record IsManifestClean (check : Check) (form : Form) (bytes : List ℕ) : Type 0 where
  pub sites : List Site
  pub declares : AreSites form bytes sites
  pub accepted : All (IsSiteAccepted check form) sites

-- ---- a file below a folder

-- what is no manifest declares nothing
abbrev pub DeclaresClean : Check → Option Form → List ℕ → Type 0
DeclaresClean check None bytes = Unit {0}
DeclaresClean check (Some form) bytes = IsManifestClean check form (without_mark bytes)

-- its tags, where they are taken
abbrev pub TagsClean : Check → Bool → List ℕ → List ℕ → Type 0
TagsClean check false path bytes = Unit {0}
TagsClean check true path bytes = AreTagsClean check (source_at path (source_bytes bytes))

-- it is read, and each expression is accepted that is taken of it
pub record IsReadClean (s : Shelved) (check : Check) (t : Taken) (path : List ℕ) : Type 0 where
  pub bytes : List ℕ
  pub holds : s.Holds path bytes
  pub declared : DeclaresClean check (form_below t path) bytes
  pub tags : TagsClean check t.tags path bytes

-- nothing is said of a file of which nothing is taken
abbrev pub IsCleanBy : Bool → Shelved → Check → Taken → List ℕ → Type 0
IsCleanBy false s check t path = Unit {0}
IsCleanBy true s check t path = IsReadClean s check t path

abbrev pub IsFileClean : Shelved → Check → Taken → List ℕ → Type 0
IsFileClean s check t path = IsCleanBy (is_wanted t path) s check t path

-- ---- license texts

-- it is a manifest of its form, and the expressions that it declares need these
pub record IsManifestUse (check : Check) (folder : Option (List ℕ)) (form : Form)
    (bytes : List ℕ) (names : List (List ℕ)) : Type 0 where
  pub sites : List Site
  pub declares : AreInOrder form bytes sites
  pub needs : IsUseOfManifest check folder form (Some sites) names

-- what is no manifest declares nothing
abbrev pub IsDeclaredUse :
    Check → Option (List ℕ) → Option Form → List ℕ → List (List ℕ) → Type 0
IsDeclaredUse check folder None bytes names = names ≡ []
IsDeclaredUse check folder (Some form) bytes names =
    IsManifestUse check folder form (without_mark bytes) names

-- what those behind its tags need, where they are taken
abbrev pub IsTaggedUse :
    Check → Option (List ℕ) → Bool → List ℕ → List ℕ → List (List ℕ) → Type 0
IsTaggedUse check folder false path bytes names = names ≡ []
IsTaggedUse check folder true path bytes names =
    IsUseOfTags check folder (source_at path (source_bytes bytes)) names

-- it is read, and its expressions need these license texts
pub record IsReadUse (s : Shelved) (check : Check) (t : Taken) (folder : Option (List ℕ))
    (path : List ℕ) (names : List (List ℕ)) : Type 0 where
  pub bytes : List ℕ
  pub declared : List (List ℕ)
  pub tagged : List (List ℕ)
  pub holds : s.Holds path bytes
  pub declared_are : IsDeclaredUse check folder (form_below t path) bytes declared
  pub tagged_are : IsTaggedUse check folder t.tags path bytes tagged
  pub names_are : names ≡ declared ++ tagged

-- a file needs none of which nothing is taken
abbrev pub IsFileUseBy :
    Bool → Shelved → Check → Taken → Option (List ℕ) → List ℕ → List (List ℕ) → Type 0
IsFileUseBy false s check t folder path names = names ≡ []
IsFileUseBy true s check t folder path names = IsReadUse s check t folder path names

abbrev pub IsFileUse :
    Shelved → Check → Taken → Option (List ℕ) → List ℕ → List (List ℕ) → Type 0
IsFileUse s check t folder path names =
    IsFileUseBy (is_wanted t path) s check t folder path names

-- ---- files without a license

-- it is a manifest that declares an expression
abbrev pub Declares : Option Form → List ℕ → Type 0
Declares None bytes = ⊥
Declares (Some form) bytes =
    (sites : List Site) × AreSites form (without_mark bytes) sites × (sites ≢ [])

-- an expression stands behind a tag
abbrev pub HasTags : Bool → List ℕ → List ℕ → Type 0
HasTags false path bytes = ⊥
HasTags true path bytes = tagged (source_at path (source_bytes bytes)) ≢ []

-- it is read, and tells a license, or needs to tell none, or what stands beside it tells it
pub record IsReadLicensed (s : Shelved) (t : Taken) (folder : Option (List ℕ)) (path : List ℕ) :
    Type 0 where
  pub bytes : List ℕ
  pub holds : s.Holds path bytes
  pub tells : Declares (form_below t path) bytes ⊎ HasTags t.tags path bytes
      ⊎ IsBare s folder path bytes false

-- nothing is said of a file of which nothing is taken
abbrev pub IsLicensedBy : Bool → Shelved → Taken → Option (List ℕ) → List ℕ → Type 0
IsLicensedBy false s t folder path = Unit {0}
IsLicensedBy true s t folder path = IsReadLicensed s t folder path

abbrev pub IsFileLicensed : Shelved → Taken → Option (List ℕ) → List ℕ → Type 0
IsFileLicensed s t folder path = IsLicensedBy (is_wanted t path) s t folder path
