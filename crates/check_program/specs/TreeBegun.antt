-- What is written and told of a folder at which a check breaks off.
use Rattle.std.specs.Prelude.{◌≡◌, ◌⊎◌, ℕ, Bool, true, false, List, [], ◌∷◌, ◌++◌, Option, Some, None, map, string_bytes}
use Rattle.std.specs.List.{list_any}
use Rattle.shelves.specs.Shelf.{Shelved}
use Rattle.source_trees.specs.Readings.{is_all}
use Rattle.source_trees.specs.declared.reading.Taken.{Taken}
use Rattle.source_trees.specs.declared.stops.Stop.{Stop}
use Rattle.source_trees.specs.declared.walk.Seen.{Seen}
use Rattle.source_trees.specs.declared.walk.Seen.TheVariants as seen
use Rattle.source_trees.specs.Walks.{AreBelow, AreTaken, IsBegun, IsNext}
use Rattle.spdx_check.specs.declared.check.Check.{Check}
use Rattle.check_sources.specs.Owed.{Whole, bare_at, owed_by, wholes_text}
use Rattle.check_files.specs.Begun.{IsBeginning, IsFileBegun}
use Rattle.check_files.specs.declared.trouble.CheckTrouble.{CheckTrouble}
use Rattle.check_files.specs.Noted.{Notes, nothing_noted}
use Rattle.check_files.specs.Passing.{is_of_memory}
use Rattle.check_files.specs.Tally.{Tally, is_clean}
use Rattle.check_program.specs.Ends.{AreTexts, IsTextsFolder, IsTextsStep, left_trouble}
use Rattle.check_program.specs.Steps.{AreSteps}
use Rattle.check_program.specs.Trees.{Manner}

-- ---- a walk

-- of a file a beginning is written; nothing comes of anything else
abbrev pub IsSeenBegun : Shelved → Check → Taken → Option (List ℕ) → Seen → Tally → Notes →
    List ℕ → List CheckTrouble → Type 0
IsSeenBegun s check t folder (seen.File n) old noted text told =
    IsFileBegun s check t folder (string_bytes n) old noted text told
IsSeenBegun s check t folder x old noted text told = (text ≡ []) × (told ≡ [])

-- so it is with what comes next, if the walk came to it
abbrev pub IsNextBegun : Shelved → Check → Taken → Option (List ℕ) → List Stop → Tally → Notes →
    List ℕ → List CheckTrouble → Type 0
IsNextBegun s check t folder now old noted text told = ((text ≡ []) × (told ≡ []))
    ⊎ ((x : Seen) × (after : List Stop) × IsNext s now (Some x) after
    × IsSeenBegun s check t folder x old noted text told)

-- all was done with what a walk came to first, and of what came next a beginning
pub record IsWalkBegun (s : Shelved) (check : Check) (t : Taken) (folder : Option (List ℕ))
    (stops : List Stop) (old : Tally) (noted : Notes) (text : List ℕ)
    (told : List CheckTrouble) : Type 0 where
  pub first : List Seen
  pub now : List Stop
  pub came : AreTaken s stops first now
  pub found : List ℕ
  pub found_told : List CheckTrouble
  pub between : Tally
  pub notes : Notes
  pub steps : AreSteps s check t folder first old noted found found_told between notes
  pub own : List ℕ
  pub own_told : List CheckTrouble
  pub begun : IsNextBegun s check t folder now between notes own own_told
  pub text_is : text ≡ found ++ own
  pub told_is : told ≡ found_told ++ own_told

-- ---- the end of a folder

-- the first of these
abbrev pub AreFirst : List CheckTrouble → List CheckTrouble → Type 0
AreFirst all first = (others : List CheckTrouble) × (all ≡ first ++ others)

-- the first troubles are told, none of which is of memory
abbrev pub AreFirstPassed : List CheckTrouble → List CheckTrouble → Type 0
AreFirstPassed ts told = AreFirst ts told × (list_any is_of_memory told ≡ false)

abbrev pub IsWholesText : Check → List Whole → Tally → List ℕ → Type 0
IsWholesText check wholes old text = text ≡ wholes_text check.format (is_clean old) wholes

-- which texts are missing and which nobody needs, as far as that is written, where all files of the
-- folder are had; else why they aren't, as far as that is told
abbrev pub IsOwedBegun : Check → List ℕ → List (List ℕ) → List (List ℕ) → List CheckTrouble →
    Tally → List ℕ → List CheckTrouble → Type 0
IsOwedBegun check folder used files [] old text told =
    IsBeginning (IsWholesText check (owed_by folder used files) old) text
    × (told ≡ [])
IsOwedBegun check folder used files (t ∷ ts) old text told =
    (text ≡ []) × AreFirstPassed (t ∷ ts) told

pub record OwesTextsBegun (s : Shelved) (check : Check) (folder : List ℕ) (used : List (List ℕ))
    (old : Tally) (text : List ℕ) (told : List CheckTrouble) : Type 0 where
  pub files : List (List ℕ)
  pub troubles : List CheckTrouble
  pub texts : AreTexts s folder files troubles
  pub owed : IsOwedBegun check folder used files troubles old text told

-- nothing is written or told before that
abbrev pub IsTextsStepBegun : Shelved → Check → Option (List ℕ) → List (List ℕ) → Tally →
    List ℕ → List CheckTrouble → Type 0
IsTextsStepBegun s check None used old text told = (text ≡ []) × (told ≡ [])
IsTextsStepBegun s check (Some folder) used old text told = ((text ≡ []) × (told ≡ []))
    ⊎ OwesTextsBegun s check folder used old text told

-- files without a license, as far as that is written, where they are told
abbrev pub IsBareBegun : Bool → Check → List (List ℕ) → Tally → List ℕ → Type 0
IsBareBegun true check untagged old text =
    IsBeginning (IsWholesText check (map bare_at untagged) old) text
IsBareBegun false check untagged old text = text ≡ []

-- the first is told of what runs that were killed left; or all of it, and of license texts a
-- beginning; or all of them, and of files without a license a beginning
pub data IsEndBegun (is_all : Bool) (s : Shelved) (check : Check) (is_told : Bool)
    (folder : Option (List ℕ)) (noted : Notes) (old : Tally) :
    List ℕ → List CheckTrouble → Type 0 where
  in_left : (told : List CheckTrouble) → AreFirst (map left_trouble noted.left_behind) told →
      IsEndBegun is_all s check is_told folder noted old [] told
  in_texts : (text : List ℕ) (told : List CheckTrouble) → is_all ≡ true →
      IsTextsStepBegun s check folder noted.used old text told →
      IsEndBegun is_all s check is_told folder noted old text
      (map left_trouble noted.left_behind ++ told)
  in_bare : (owed own : List ℕ) (told : List CheckTrouble) (between : Tally) → is_all ≡ true →
      IsTextsStep s check folder noted.used old owed told between →
      IsBareBegun is_told check noted.untagged between own →
      IsEndBegun is_all s check is_told folder noted old (owed ++ own)
      (map left_trouble noted.left_behind ++ told)

-- ---- a folder

-- nothing is done; or its walk is begun; or all of that is done, and its end is begun
pub data IsTreeBegun (s : Shelved) (check : Check) (m : Manner) (path : List ℕ) (old : Tally) :
    List ℕ → List CheckTrouble → Type 0 where
  before_walk : IsTreeBegun s check m path old [] []
  in_walk : (folder : Option (List ℕ)) (stops : List Stop) (text : List ℕ)
      (told : List CheckTrouble) → IsTextsFolder s m.texts path folder → IsBegun s path stops →
      IsWalkBegun s check m.taken folder stops old nothing_noted text told →
      IsTreeBegun s check m path old text told
  in_end : (folder : Option (List ℕ)) (all : List Seen) (within own : List ℕ)
      (within_told own_told : List CheckTrouble) (between : Tally) (noted : Notes) →
      IsTextsFolder s m.texts path folder → AreBelow s path all →
      AreSteps s check m.taken folder all old nothing_noted within within_told between noted →
      IsEndBegun (is_all m.taken) s check m.untagged folder noted between own own_told →
      IsTreeBegun s check m path old (within ++ own) (within_told ++ own_told)
