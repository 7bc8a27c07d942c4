-- What a count whose check passes says of all that is below a folder.
use Rattle.std.specs.Prelude.{◌≡◌, ℕ, Bool, true, false, ◌&&◌, List, [], ◌∷◌, ◌++◌, All, Option, Some, None, string_bytes}
use Rattle.shelves.specs.Shelf.{Shelved}
use Rattle.source_trees.specs.Readings.{is_all}
use Rattle.source_trees.specs.declared.reading.Taken.{Taken}
use Rattle.source_trees.specs.declared.walk.Seen.{Seen}
use Rattle.source_trees.specs.declared.walk.Seen.TheVariants as seen
use Rattle.source_trees.specs.Walks.{AreBelow}
use Rattle.spdx_check.specs.declared.check.Check.{Check}
use Rattle.notice_texts.specs.Lacking.{has_text, is_among, is_needed}
use Rattle.check_sources.specs.Owed.{whole_names}
use Rattle.check_files.specs.Clean.{IsFileClean, IsFileLicensed, IsFileUse}
use Rattle.check_program.specs.Ends.{AreTexts, IsTextsFolder}
use Rattle.check_program.specs.Trees.{Manner}

-- ---- expressions

-- each file is clean, and each folder is read, all of whose names are UTF-8; what others wrote or a
-- program made is left out
abbrev pub IsSeenClean : Shelved → Check → Taken → Seen → Type 0
IsSeenClean s check t (seen.File n) = IsFileClean s check t (string_bytes n)
IsSeenClean s check t (seen.Folder n unnamed) = unnamed ≡ 0
IsSeenClean s check t (seen.LeftOut n) = Unit {0}
IsSeenClean s check t (seen.LeftBehind n) = Unit {0}
IsSeenClean s check t (seen.Unread n e) = ⊥

-- ---- license texts

-- what expressions need of what is seen
abbrev pub IsSeenUse :
    Shelved → Check → Taken → Option (List ℕ) → Seen → List (List ℕ) → Type 0
IsSeenUse s check t folder (seen.File n) names = IsFileUse s check t folder (string_bytes n) names
IsSeenUse s check t folder x names = names ≡ []

-- one after the other
pub data AreSeenUses (s : Shelved) (check : Check) (t : Taken) (folder : Option (List ℕ)) :
    List Seen → List (List ℕ) → Type 0 where
  none : AreSeenUses s check t folder [] []
  more : {all : List Seen} {names : List (List ℕ)} (x : Seen) (own : List (List ℕ)) →
      AreSeenUses s check t folder all names → IsSeenUse s check t folder x own →
      AreSeenUses s check t folder (all ++ x ∷ []) (names ++ own)

-- all files of the folder of license texts are had: each text that expressions need is in one of
-- them, and each of them is needed
pub record AreTextsClean (s : Shelved) (check : Check) (t : Taken) (folder : List ℕ)
    (all : List Seen) : Type 0 where
  pub used : List (List ℕ)
  pub files : List (List ℕ)
  pub uses : AreSeenUses s check t (Some folder) all used
  pub texts : AreTexts s folder files []
  pub none_missing : (name : List ℕ) → is_among used name ≡ true →
      has_text (whole_names files) name ≡ true
  pub none_unused : (file : List ℕ) → is_among (whole_names files) file ≡ true →
      is_needed used file ≡ true

-- where all that tells a license is taken, and there is such a folder
abbrev pub AreTextsCleanBy :
    Bool → Shelved → Check → Taken → Option (List ℕ) → List Seen → Type 0
AreTextsCleanBy false s check t folder all = Unit {0}
AreTextsCleanBy true s check t None all = Unit {0}
AreTextsCleanBy true s check t (Some folder) all = AreTextsClean s check t folder all

-- ---- files without a license

abbrev pub IsSeenLicensed : Shelved → Taken → Option (List ℕ) → Seen → Type 0
IsSeenLicensed s t folder (seen.File n) = IsFileLicensed s t folder (string_bytes n)
IsSeenLicensed s t folder x = Unit {0}

-- where files without a license are told, there is none
abbrev pub AreLicensedBy : Bool → Shelved → Taken → Option (List ℕ) → List Seen → Type 0
AreLicensedBy false s t folder all = Unit {0}
AreLicensedBy true s t folder all = All (IsSeenLicensed s t folder) all

-- ---- a folder

-- all that is below the path is clean, its license texts are those that are needed, and where files
-- without a license are told, there is none
pub record IsTreeClean (s : Shelved) (check : Check) (m : Manner) (path : List ℕ) : Type 0 where
  pub all : List Seen
  pub folder : Option (List ℕ)
  pub sees : AreBelow s path all
  pub folder_is : IsTextsFolder s m.texts path folder
  pub clean : All (IsSeenClean s check m.taken) all
  pub texts : AreTextsCleanBy (is_all m.taken) s check m.taken folder all
  pub licensed : AreLicensedBy (is_all m.taken && m.untagged) s m.taken folder all
