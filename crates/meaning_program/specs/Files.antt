-- What comes of files whose lines are simplified.
use Rattle.std.specs.Prelude.{◌≡◌, ◌<◌, ℕ, Bool, true, false, List, [], ◌∷◌, All, bytes_eq, codes, string_bytes, if◌then◌else◌, map}
use Rattle.std.specs.Borrow.{Bor}
use Rattle.std.specs.List.{AllZip, list_any}
use Rattle.std.specs.Option.{option_copied}
use Rattle.std.specs.IoError.{error_kind}
use Rattle.std.specs.declared.io.Error.{Error}
use Rattle.std.specs.declared.io.ErrorKind.{ErrorKind}
use Rattle.std.specs.declared.io.ErrorKind.TheVariants as kind
use Rattle.line_engine.specs.Lines.{lines_of}
use Rattle.shelves.specs.AtPath.{FailsAt, IsContent, told_path}
use Rattle.shelves.specs.Shelf.{Shelved}
use Rattle.spdx_requirement.specs.Rows.{Rows}
use Rattle.list_program.specs.Named.{InsideBytes, IsNamedList}
use Rattle.list_program.specs.Troubles.{IsNoNamedList}
use Rattle.meaning_program.specs.LineLaws.{IsBlankOrMeant}
use Rattle.meaning_program.specs.Simplified.{IsSimplified}
use Rattle.meaning_program.specs.declared.simplified.Simplified.{Simplified}
use Rattle.meaning_program.specs.declared.simplified.UnmeantLine.{UnmeantLine}
use Rattle.meaning_program.specs.declared.files.FileEnd.{FileEnd}
use Rattle.meaning_program.specs.declared.files.FileEnd.TheVariants as end
use Rattle.meaning_program.specs.declared.files.Request.{Request}
use Rattle.meaning_program.specs.declared.files.Run.{Run}
use Rattle.meaning_program.specs.declared.trouble.MeaningTrouble.{MeaningTrouble}
use Rattle.meaning_program.specs.declared.trouble.MeaningTrouble.TheVariants as trouble

abbrev pub path_in : Bor (List ℕ) → List ℕ
path_in path = path.now

abbrev pub refuses_memory : ErrorKind → Bool
refuses_memory kind.OutOfMemory = true
refuses_memory _ = false

pub record IsSimplifiedAt (s : Shelved) (c : Rows) (is_lax : Bool) (path : List ℕ)
    (x : Simplified) : Type 0 where
  pub bytes : List ℕ
  pub content : IsContent s path bytes
  pub simplified : IsSimplified c is_lax bytes x

-- the file at the path is read and its lines are simplified; or it can't be read, and not for want
-- of memory
abbrev pub IsEndOf : Shelved → Rows → Bool → List ℕ → FileEnd → Type 0
IsEndOf s c is_lax path (end.Read n x) =
    (string_bytes n ≡ told_path path) × IsSimplifiedAt s c is_lax path x
IsEndOf s c is_lax path (end.Unread n e) =
    (string_bytes n ≡ told_path path) × FailsAt s path e × (refuses_memory (error_kind e) ≡ false)

-- ---- a run

-- by the list that is named, or else is inside, each file in turn
pub record IsRun (s : Shelved) (inside : InsideBytes) (a : Request) (run : Run) : Type 0 where
  pub catalogue : Rows
  pub list_is : IsNamedList s inside (option_copied a.list) catalogue
  pub ends : AllZip (IsEndOf s catalogue a.is_lax) (map path_in a.paths.now) run.files.items

-- why there is none; nothing is said of memory
abbrev pub IsNoRun : Shelved → InsideBytes → Request → MeaningTrouble → Type 0
IsNoRun s inside a (trouble.List t) = IsNoNamedList s inside (option_copied a.list) t
IsNoRun s inside a (trouble.Unsaid u) = ⊥
IsNoRun s inside a trouble.Memory = Unit {0}

-- ---- the status

abbrev pub is_unread : FileEnd → Bool
is_unread (end.Read n x) = false
is_unread (end.Unread n e) = true

abbrev pub is_some : List UnmeantLine → Bool
is_some [] = false
is_some (line ∷ lines) = true

abbrev pub has_unmeant : FileEnd → Bool
has_unmeant (end.Read n x) = is_some x.unmeant.items
has_unmeant (end.Unread n e) = false

abbrev pub status_of : Run → ℕ
status_of run =
    if list_any is_unread run.files.items then 2
    else (if list_any has_unmeant run.files.items then 1 else 0)

-- ---- a law

-- the file at the path is read, and each line of it is blank or means something
pub record IsMeantAt (s : Shelved) (c : Rows) (is_lax : Bool) (path : List ℕ) : Type 0 where
  pub bytes : List ℕ
  pub content : IsContent s path bytes
  pub meant : All (IsBlankOrMeant c is_lax) (lines_of bytes)

-- so are all files, by the list that is named
pub record IsAllMeant (s : Shelved) (inside : InsideBytes) (a : Request) : Type 0 where
  pub catalogue : Rows
  pub list_is : IsNamedList s inside (option_copied a.list) catalogue
  pub each : All (IsMeantAt s catalogue a.is_lax) (map path_in a.paths.now)
