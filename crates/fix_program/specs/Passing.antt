-- What a run whose status is 0 says of expressions.
use Rattle.std.specs.Prelude.{◌≡◌, ℕ, Bool, true, false, List, All, Option, None, Some, map, string_bytes}
use Rattle.std.specs.Option.{option_copied}
use Rattle.shelves.specs.Shelf.{Shelved}
use Rattle.spdx_requirement.specs.Rows.{Rows}
use Rattle.source_trees.specs.Readings.{IsReading}
use Rattle.source_trees.specs.Walks.{AreBelow}
use Rattle.source_trees.specs.declared.reading.Reading.{Reading}
use Rattle.source_trees.specs.declared.reading.Reading.TheVariants as reading
use Rattle.source_trees.specs.declared.reading.Taken.{Taken}
use Rattle.source_trees.specs.declared.reading.Wanted.{Wanted}
use Rattle.source_trees.specs.declared.walk.Seen.{Seen}
use Rattle.source_trees.specs.declared.walk.Seen.TheVariants as seen
use Rattle.list_program.specs.Named.{InsideBytes, IsNamedList}
use Rattle.file_fixes.specs.Accepted.{Accepts}
use Rattle.file_fixes.specs.declared.mended.Parts.{Parts}
use Rattle.file_fixes.specs.declared.mended.Parts.TheVariants as parts
use Rattle.fix_program.specs.declared.run.Request.{Request}
use Rattle.fix_program.specs.Files as file
use Rattle.fix_program.specs.Files.{read_as}
use Rattle.fix_program.specs.Runs.{path_in}
use Rattle.fix_program.specs.Trees.{as_file, parts_below}

-- ---- files and folders

-- the file is read, and its expressions are accepted, or their fixes are
pub record IsAccepted (s : Shelved) (c : Rows) (w : Bool) (p : Parts) (path : List ℕ) :
    Type 0 where
  pub bytes : List ℕ
  pub new : List ℕ
  pub reads : file.IsRead s w path bytes
  pub accepts : Accepts c p (read_as w path) bytes new

abbrev pub IsAcceptedIf : Shelved → Rows → Bool → Option Parts → List ℕ → Type 0
IsAcceptedIf s c w None path = Unit {0}
IsAcceptedIf s c w (Some p) path = IsAccepted s c w p (as_file path)

-- each file is, and each folder is read, all of whose names are UTF-8
abbrev pub IsSeenAccepted : Shelved → Rows → Bool → Taken → Seen → Type 0
IsSeenAccepted s c w t (seen.File n) =
    IsAcceptedIf s c w (parts_below t (string_bytes n)) (string_bytes n)
IsSeenAccepted s c w t (seen.Folder n unnamed) = unnamed ≡ 0
IsSeenAccepted s c w t (seen.LeftOut n) = Unit {0}
IsSeenAccepted s c w t (seen.LeftBehind n) = Unit {0}
IsSeenAccepted s c w t (seen.Unread n e) = ⊥

-- so it is of all that is below the path
abbrev pub IsTreeAccepted : Shelved → Rows → Bool → Taken → List ℕ → Type 0
IsTreeAccepted s c w t path =
    (all : List Seen) × AreBelow s path all × All (IsSeenAccepted s c w t) all

abbrev pub IsAcceptedAs : Shelved → Rows → Bool → Reading → List ℕ → Type 0
IsAcceptedAs s c w reading.Lines path = IsAccepted s c w parts.Lines path
IsAcceptedAs s c w reading.Tags path = IsAccepted s c w (parts.Source None true) path
IsAcceptedAs s c w (reading.Manifest form) path =
    IsAccepted s c w (parts.Source (Some form) false) path
IsAcceptedAs s c w (reading.Tree t) path = IsTreeAccepted s c w t path

abbrev pub IsPathAccepted : Shelved → Rows → Bool → Wanted → List ℕ → Type 0
IsPathAccepted s c w wanted path =
    (r : Reading) × IsReading s wanted path r × IsAcceptedAs s c w r path

-- so it is of all paths, by the list that is named
pub record AreAllAccepted (s : Shelved) (inside : InsideBytes) (a : Request) : Type 0 where
  pub catalogue : Rows
  pub list_is : IsNamedList s inside (option_copied a.list) catalogue
  pub each : All (IsPathAccepted s catalogue a.is_written a.wanted) (map path_in a.paths.now)
