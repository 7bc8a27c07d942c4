-- That each text which a choice wants stands on the page, or is missing.
use Rattle.std.specs.Prelude.{◌≡◌, ◌⊎◌, ℕ, Bool, true, List, Contains}
use Rattle.license_notice.specs.Rows.{Line}
use Rattle.notice_forms.specs.Told.{Named}
use Rattle.notice_texts.specs.Shared.{Own}
use Rattle.notice_texts.specs.Words.{is_same}
use Rattle.notice_told.specs.declared.packages.OwnFile.{OwnFile}
use Rattle.notice_told.specs.declared.packages.Package.{Package}
use Rattle.notice_told.specs.Lacks.{Lacked, lack, may_be}
use Rattle.notice_told.specs.Packages.{chosen_by, offered_by, own_in}
use Rattle.notice_told.specs.Texts.{general_name, line_held}

-- what the file holds is there, the same but for white space, and its package stands below
pub record StandsAmong (texts : List Named) (t : Own) : Type 0 where
  pub text : Named
  pub there : Contains texts text
  pub same : is_same text.bytes t.bytes ≡ true
  pub below : Contains text.lines (line_held t.holder)

-- a file of the package that may be the text is there
pub record HasOwn (texts : List Named) (p : Package) (name : List ℕ) : Type 0 where
  pub file : OwnFile
  pub of : Contains p.files.now file
  pub may : may_be (offered_by p) name file ≡ true
  pub stands : StandsAmong texts (own_in p file)

-- the general text of that name is
pub record HasGeneral (marked : Bool) (texts : List Named) (name : List ℕ) : Type 0 where
  pub text : Named
  pub there : Contains texts text
  pub name_is : text.name ≡ general_name marked name

-- for the package a text of that name is on the page
abbrev pub IsOnPage : Bool → List Named → Package → List ℕ → Type 0
IsOnPage marked texts p name = HasOwn texts p name ⊎ HasGeneral marked texts name

-- each text that the choice of a package wants is there, or is missing
abbrev pub EachIsThere : Bool → List Package → List Named → List Lacked → Type 0
EachIsThere marked packages texts missing =
    (p : Package) → Contains packages p → (name : List ℕ) → Contains (chosen_by p) name →
    IsOnPage marked texts p name ⊎ Contains missing (lack p name)
