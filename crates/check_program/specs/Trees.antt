-- What is done with all that is below a folder.
use Rattle.std.specs.Prelude.{◌≡◌, ◌⊎◌, ℕ, Bool, List, ◌++◌, Option}
use Rattle.std.specs.Option.{option_copied}
use Rattle.shelves.specs.Shelf.{Shelved, to_look}
use Rattle.source_trees.specs.Readings.{is_all}
use Rattle.source_trees.specs.declared.reading.Taken.{Taken}
use Rattle.source_trees.specs.declared.walk.Seen.{Seen}
use Rattle.source_trees.specs.Walks.{AreBelow}
use Rattle.spdx_check.specs.declared.check.Check.{Check}
use Rattle.check_files.specs.declared.trouble.CheckTrouble.{CheckTrouble}
use Rattle.check_files.specs.Noted.{Notes, nothing_noted}
use Rattle.check_files.specs.Passing.{IsPassed}
use Rattle.check_files.specs.Tally.{Tally}
use Rattle.check_program.specs.declared.tree.Manner as written
use Rattle.check_program.specs.Ends.{IsEnd, IsTextsFolder}
use Rattle.check_program.specs.Steps.{AreSteps}

-- what is taken of the files, the folder of license texts that was named, and whether files without
-- a license are told
pub record Manner : Type 0 where
  pub taken : Taken
  pub texts : Option (List ℕ)
  pub untagged : Bool

abbrev pub manner_of : written.Manner → Manner
manner_of m = record {
  taken = m.taken;
  texts = option_copied m.texts;
  untagged = m.untagged;
}

-- all that a walk comes to, and then the end of the folder
pub record IsTreeChecked (s : Shelved) (check : Check) (m : Manner) (path : List ℕ) (old : Tally)
    (text : List ℕ) (told : List CheckTrouble) (new : Tally) : Type 0 where
  pub folder : Option (List ℕ)
  pub all : List Seen
  pub within : List ℕ
  pub within_told : List CheckTrouble
  pub between : Tally
  pub noted : Notes
  pub behind : List ℕ
  pub behind_told : List CheckTrouble
  pub folder_is : IsTextsFolder s m.texts path folder
  pub sees : AreBelow s path all
  pub steps : AreSteps s check m.taken folder all old nothing_noted within within_told between
      noted
  pub ends : IsEnd (is_all m.taken) s check m.untagged folder noted between behind behind_told new
  pub text_is : text ≡ within ++ behind
  pub told_is : told ≡ within_told ++ behind_told

-- a folder that can't be looked at is told and passed over
abbrev pub IsTreeStep : Shelved → Check → Manner → List ℕ → Tally → List ℕ → List CheckTrouble →
    Tally → Type 0
IsTreeStep s check m path old text told new =
    IsTreeChecked s check m path old text told new
    ⊎ IsPassed path (s.Fails to_look path) old text told new
