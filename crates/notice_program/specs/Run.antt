-- A run: what is read, and how it ends.
use Rattle.std.specs.Prelude.{◌≡◌, ◌≢◌, ℕ, Bool, true, false, List, [], map}
use Rattle.std.specs.IoError.{error_kind}
use Rattle.std.specs.Option.{option_copied}
use Rattle.std.specs.declared.io.ErrorKind.{ErrorKind}
use Rattle.std.specs.declared.io.ErrorKind.TheVariants as kind
use Rattle.shelves.specs.Shelf.{Shelved}
use Rattle.spdx_requirement.specs.Rows.{Rows}
use Rattle.list_program.specs.Named.{InsideBytes, IsNamedList}
use Rattle.list_program.specs.Troubles.{IsNoNamedList}
use Rattle.package_files.specs.declared.fault.FileFault.{FileFault}
use Rattle.package_files.specs.declared.listed.Listed.{Listed}
use Rattle.package_files.specs.All.{AreListed, path_in}
use Rattle.gate_program.specs.declared.policy.PolicyTrouble.{PolicyTrouble}
use Rattle.gate_program.specs.declared.policy.PolicyTrouble.TheVariants as policy
use Rattle.choice_program.specs.declared.choosing.ChoiceTrouble.{ChoiceTrouble}
use Rattle.choice_program.specs.declared.choosing.ChoiceTrouble.TheVariants as choice
use Rattle.choice_program.specs.declared.choosing.Chosen.{Chosen}
use Rattle.choice_program.specs.Chosen.{IsChosen, IsNoChoice}
use Rattle.notice_program.specs.declared.end.End.{End}
use Rattle.notice_program.specs.declared.end.End.TheVariants as end
use Rattle.notice_program.specs.declared.end.Request.{Request}
use Rattle.notice_program.specs.declared.run.NoticeTrouble.{NoticeTrouble}
use Rattle.notice_program.specs.declared.run.NoticeTrouble.TheVariants as trouble
use Rattle.notice_program.specs.declared.run.Run.{Run}
use Rattle.notice_program.specs.Ends.{end_status}
use Rattle.notice_program.specs.Page.{IsChosenEnd}
use Rattle.notice_program.specs.Taken.{packages_in, taken_in}

-- ---- what packages are used under

abbrev pub refuses_memory : ErrorKind → Bool
refuses_memory kind.OutOfMemory = true
refuses_memory k = false

abbrev pub is_of_policy_memory : PolicyTrouble → Bool
is_of_policy_memory (policy.Unreadable n e) = refuses_memory (error_kind e)
is_of_policy_memory (policy.NoPolicy n f) = false
is_of_policy_memory (policy.NoReplacements f) = false
is_of_policy_memory policy.Memory = true

-- memory was refused, by the system or within
abbrev pub is_of_memory : ChoiceTrouble → Bool
is_of_memory (choice.Policy t) = is_of_policy_memory t
is_of_memory choice.Memory = true
is_of_memory t = false

abbrev pub IsUnchosen : ChoiceTrouble → End → Type 0
IsUnchosen t e = (e ≡ end.NoChoice t) × (is_of_memory t ≡ false)

-- ---- how a run ends

-- each package of the files has a choice, or it is told why there is none
pub data IsFilesEnd (s : Shelved) (replacements : List ℕ) (c : Rows) (a : Request)
    (files : List Listed) : End → Type 0 where
  chosen : {e : End} (choices : Chosen) →
      IsChosen s replacements c a.accepted a.one_for_all (packages_in files) choices →
      IsChosenEnd s a (taken_in files choices) e → IsFilesEnd s replacements c a files e
  no_choice : (t : ChoiceTrouble) →
      IsNoChoice s replacements c a.accepted a.one_for_all (packages_in files) t →
      is_of_memory t ≡ false → IsFilesEnd s replacements c a files (end.NoChoice t)

-- nothing is chosen where a file is left out
pub data IsEnd (s : Shelved) (replacements : List ℕ) (c : Rows) (a : Request) (files : List Listed)
    (left_out : List FileFault) : End → Type 0 where
  left : left_out ≢ [] → IsEnd s replacements c a files left_out end.LeftOut
  read : {e : End} → left_out ≡ [] → IsFilesEnd s replacements c a files e →
      IsEnd s replacements c a files left_out e

-- ---- a run

-- over this list: each file lists its packages or is left out
pub record IsRunOver (s : Shelved) (replacements : List ℕ) (c : Rows) (a : Request) (run : Run) :
    Type 0 where
  pub reads : AreListed s a.wanted (map path_in a.paths.now) run.files.items run.left_out.items
  pub ends : IsEnd s replacements c a run.files.items run.left_out.items run.end

-- by the list that is named, or else is inside
pub record IsRun (s : Shelved) (inside : InsideBytes) (replacements : List ℕ) (a : Request)
    (run : Run) : Type 0 where
  pub catalogue : Rows
  pub list_is : IsNamedList s inside (option_copied a.list) catalogue
  pub runs : IsRunOver s replacements catalogue a run

-- why there is none; nothing is said of memory
abbrev pub IsNoRun : Shelved → InsideBytes → Request → NoticeTrouble → Type 0
IsNoRun s inside a (trouble.List t) = IsNoNamedList s inside (option_copied a.list) t
IsNoRun s inside a trouble.Memory = Unit {0}

abbrev pub status_of : Run → ℕ
status_of run = end_status run.end
