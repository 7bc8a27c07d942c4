-- What is done at the end of a folder: what runs that were killed left is told, which license texts
-- are missing or not needed, and which files have no license.
use Rattle.std.specs.Prelude.{◌≡◌, ◌⊎◌, ℕ, Bool, true, false, List, [], ◌∷◌, ◌++◌, Option, Some, None, codes, flat_map, is_some, length, map, String, string_bytes, if◌then◌else◌}
use Rattle.std.specs.List.{filter_map}
use Rattle.std.specs.declared.alloc.Global.{Global}
use Rattle.std.specs.IoError.{error_kind}
use Rattle.std.specs.declared.io.Error.{Error}
use Rattle.std.specs.declared.io.ErrorKind.TheVariants.{OutOfMemory}
use Rattle.shelves.specs.Shelf.{Shelved, to_look}
use Rattle.source_trees.specs.Stops.{below}
use Rattle.source_trees.specs.declared.walk.Seen.{Seen}
use Rattle.source_trees.specs.declared.walk.Seen.TheVariants as seen
use Rattle.source_trees.specs.Walks.{AreBelow}
use Rattle.spdx_check.specs.declared.check.Check.{Check}
use Rattle.check_sources.specs.Owed.{Whole, bare_at, owed_by, wholes_text}
use Rattle.check_files.specs.declared.trouble.CheckTrouble.{CheckTrouble}
use Rattle.check_files.specs.declared.trouble.CheckTrouble.TheVariants as trouble
use Rattle.check_files.specs.Noted.{Notes}
use Rattle.check_files.specs.Passing.{is_not_found}
use Rattle.check_files.specs.Tally.{Tally, is_clean, with_bare, with_texts, with_untagged}
use Rattle.check_program.specs.Steps.{ArePassed, trouble_of}

-- ---- the folder of license texts

-- looking at it fails, by an error that says that nothing is there, or by another one
abbrev pub FailsAt : Shelved → List ℕ → Bool → Type 0
FailsAt s path is_gone = (e : Error) × s.Fails to_look path e × (is_not_found e ≡ is_gone)

-- a folder's own, where it is one or can't be looked at; none where nothing is there
abbrev pub IsOwnFolder : Shelved → List ℕ → Option (List ℕ) → Type 0
IsOwnFolder s own (Some folder) = (folder ≡ own) × (s.IsFolder own true ⊎ FailsAt s own false)
IsOwnFolder s own None = s.IsFolder own false ⊎ FailsAt s own true

-- the one that was named, or else `LICENSES` in the folder
abbrev pub IsTextsFolder : Shelved → Option (List ℕ) → List ℕ → Option (List ℕ) → Type 0
IsTextsFolder s (Some named) path folder = folder ≡ Some named
IsTextsFolder s None path folder = IsOwnFolder s (below path (codes "LICENSES")) folder

abbrev pub file_of : Seen → List (List ℕ)
file_of (seen.File n) = string_bytes n ∷ []
file_of _ = []

-- it can't be looked at, by this error
pub record IsUnseenBy (folder : List ℕ) (error : Error) (files : List (List ℕ))
    (troubles : List CheckTrouble) : Type 0 where
  pub path : String Global
  pub path_is : string_bytes path ≡ folder
  pub files_are : files ≡ []
  pub troubles_are : troubles ≡ trouble.Unreadable path error ∷ []

-- the files among these, and what is told of them
pub record AreSortedOut (all : List Seen) (files : List (List ℕ)) (troubles : List CheckTrouble) :
    Type 0 where
  pub files_are : files ≡ flat_map file_of all
  pub troubles_are : troubles ≡ filter_map trouble_of all

-- its files, and why not all can be had
abbrev pub AreTexts : Shelved → List ℕ → List (List ℕ) → List CheckTrouble → Type 0
AreTexts s folder files troubles =
    ((all : List Seen) × AreBelow s folder all × AreSortedOut all files troubles)
    ⊎ ((e : Error) × s.Fails to_look folder e × IsUnseenBy folder e files troubles)

-- the same, where it isn't known yet that memory wasn't refused
abbrev pub AreTextsOr : Shelved → List ℕ → List (List ℕ) → List CheckTrouble → Type 0
AreTextsOr s folder files troubles =
    AreTexts s folder files troubles
    ⊎ ((e : Error) × (error_kind e ≡ OutOfMemory) × IsUnseenBy folder e files troubles)

-- ---- what is told of files as a whole

-- these are written; so many of them count
pub record AreWholes (check : Check) (wholes : List Whole) (count : ℕ → Tally → Tally)
    (old : Tally) (text : List ℕ) (new : Tally) : Type 0 where
  pub text_is : text ≡ wholes_text check.format (is_clean old) wholes
  pub new_is : new ≡ count (length wholes) old

abbrev pub are_none : List CheckTrouble → Bool
are_none [] = true
are_none (t ∷ ts) = false

-- which texts are missing and which nobody needs, where all files of the folder are had; else why
-- they aren't
abbrev pub AreOwed : Check → List ℕ → List (List ℕ) → List (List ℕ) → List CheckTrouble → Tally →
    List ℕ → List CheckTrouble → Tally → Type 0
AreOwed check folder used files [] old text told new =
    AreWholes check (owed_by folder used files) with_texts old text new
    × (told ≡ [])
AreOwed check folder used files (t ∷ ts) old text told new = ArePassed (t ∷ ts) old text told new

pub record OwesTexts (s : Shelved) (check : Check) (folder : List ℕ) (used : List (List ℕ))
    (old : Tally) (text : List ℕ) (told : List CheckTrouble) (new : Tally) : Type 0 where
  pub files : List (List ℕ)
  pub troubles : List CheckTrouble
  pub texts : AreTexts s folder files troubles
  pub owed : AreOwed check folder used files troubles old text told new

-- nothing is owed where there is no folder of license texts
abbrev pub IsTextsStep : Shelved → Check → Option (List ℕ) → List (List ℕ) → Tally → List ℕ →
    List CheckTrouble → Tally → Type 0
IsTextsStep s check None used old text told new = (text ≡ []) × (told ≡ []) × (new ≡ old)
IsTextsStep s check (Some folder) used old text told new =
    OwesTexts s check folder used old text told new

-- files without a license are told, or else counted where there are license texts
abbrev pub IsBareStep : Bool → Check → Bool → List (List ℕ) → Tally → List ℕ → Tally → Type 0
IsBareStep true check has_texts untagged old text new =
    AreWholes check (map bare_at untagged) with_bare old text new
IsBareStep false check has_texts untagged old text new =
    (text ≡ []) × (new ≡ (if has_texts then with_untagged (length untagged) old else old))

-- ---- the end

pub record IsWholeEnd (s : Shelved) (check : Check) (is_told : Bool) (folder : Option (List ℕ))
    (noted : Notes) (old : Tally) (text : List ℕ) (told : List CheckTrouble) (new : Tally) :
    Type 0 where
  pub owed : List ℕ
  pub bare : List ℕ
  pub between : Tally
  pub texts : IsTextsStep s check folder noted.used old owed told between
  pub files : IsBareStep is_told check (is_some folder) noted.untagged between bare new
  pub text_is : text ≡ owed ++ bare

-- texts and files without a license are told where all that tells a license is taken
abbrev pub IsEndBy : Bool → Shelved → Check → Bool → Option (List ℕ) → Notes → Tally → List ℕ →
    List CheckTrouble → Tally → Type 0
IsEndBy true s check is_told folder noted old text told new =
    IsWholeEnd s check is_told folder noted old text told new
IsEndBy false s check is_told folder noted old text told new =
    (text ≡ []) × (told ≡ []) × (new ≡ old)

abbrev pub left_trouble : String Global → CheckTrouble
left_trouble path = trouble.LeftBehind path

-- behind what runs that were killed left
pub record IsEnd (is_all : Bool) (s : Shelved) (check : Check) (is_told : Bool)
    (folder : Option (List ℕ)) (noted : Notes) (old : Tally) (text : List ℕ)
    (told : List CheckTrouble) (new : Tally) : Type 0 where
  pub behind : List CheckTrouble
  pub told_is : told ≡ map left_trouble noted.left_behind ++ behind
  pub ends : IsEndBy is_all s check is_told folder noted old text behind new
