-- What comes of a run over all paths.
use Rattle.std.specs.Prelude.{◌≡◌, ◌⊎◌, ℕ, Bool, true, false, List, [], ◌∷◌, None, Some, map, if◌then◌else◌}
use Rattle.std.specs.Borrow.{Bor}
use Rattle.std.specs.List.{AllZip, list_any}
use Rattle.std.specs.Option.{option_copied}
use Rattle.shelves.specs.Shelf.{Shelved}
use Rattle.source_trees.specs.Readings.{IsNoReading, IsReading}
use Rattle.source_trees.specs.declared.reading.Reading.{Reading}
use Rattle.source_trees.specs.declared.reading.Reading.TheVariants as reading
use Rattle.source_trees.specs.declared.reading.ReadingFault.{ReadingFault}
use Rattle.source_trees.specs.declared.reading.Wanted.{Wanted}
use Rattle.spdx_requirement.specs.Rows.{Rows}
use Rattle.list_program.specs.Named.{InsideBytes, IsNamedList}
use Rattle.list_program.specs.Troubles.{IsNoNamedList}
use Rattle.fix_program.specs.declared.ends.FileEnd.{FileEnd}
use Rattle.fix_program.specs.declared.ends.FileEnd.TheVariants as end
use Rattle.file_fixes.specs.declared.mended.Parts.{Parts}
use Rattle.file_fixes.specs.declared.mended.Parts.TheVariants as parts
use Rattle.fix_program.specs.declared.run.FixFault.{FixFault}
use Rattle.fix_program.specs.declared.run.FixFault.TheVariants as fault
use Rattle.fix_program.specs.declared.run.PathEnd.{PathEnd}
use Rattle.fix_program.specs.declared.run.Request.{Request}
use Rattle.fix_program.specs.declared.run.Run.{Run}
use Rattle.fix_program.specs.Ends.{IsFileEnd}
use Rattle.fix_program.specs.Trees.{AreTreeEnds}
use Rattle.fix_program.specs.Troubles.{is_of_memory, trouble_of}

abbrev pub path_in : Bor (List ℕ) → List ℕ
path_in path = path.now

-- ---- a path

-- one end, of these parts of the file
abbrev pub AreFileEnds : Shelved → Rows → Bool → Parts → List ℕ → List FileEnd → Type 0
AreFileEnds s c w p path ends = (e : FileEnd) × IsFileEnd s c w p path e × (ends ≡ e ∷ [])

-- those of a path that is read so
abbrev pub AreReadEnds : Shelved → Rows → Bool → Reading → List ℕ → List FileEnd → Type 0
AreReadEnds s c w reading.Lines path ends = AreFileEnds s c w parts.Lines path ends
AreReadEnds s c w reading.Tags path ends = AreFileEnds s c w (parts.Source None true) path ends
AreReadEnds s c w (reading.Manifest form) path ends =
    AreFileEnds s c w (parts.Source (Some form) false) path ends
AreReadEnds s c w (reading.Tree taken) path ends = AreTreeEnds s c w taken path ends

-- what isn't read is left out, and not for want of memory
abbrev pub AreUnreadEnds : ReadingFault → List FileEnd → Type 0
AreUnreadEnds f ends =
    (ends ≡ end.LeftOut (trouble_of f) ∷ []) × (is_of_memory (trouble_of f) ≡ false)

abbrev pub ArePathEnds : Shelved → Rows → Bool → Wanted → List ℕ → List FileEnd → Type 0
ArePathEnds s c w wanted path ends =
    ((r : Reading) × IsReading s wanted path r × AreReadEnds s c w r path ends)
    ⊎ ((f : ReadingFault) × IsNoReading s wanted path f × AreUnreadEnds f ends)

abbrev pub IsPathEnd : Shelved → Rows → Bool → Wanted → List ℕ → PathEnd → Type 0
IsPathEnd s c w wanted path p = ArePathEnds s c w wanted path p.ends.items

-- ---- a run

-- by the list that is named, or else is inside, each path in turn
pub record IsRun (s : Shelved) (inside : InsideBytes) (a : Request) (run : Run) : Type 0 where
  pub list_is : IsNamedList s inside (option_copied a.list) run.catalogue
  pub ends : AllZip (IsPathEnd s run.catalogue a.is_written a.wanted)
      (map path_in a.paths.now) run.paths.items

-- why there is none; nothing is said of memory
abbrev pub IsNoRun : Shelved → InsideBytes → Request → FixFault → Type 0
IsNoRun s inside a (fault.List t) = IsNoNamedList s inside (option_copied a.list) t
IsNoRun s inside a fault.Memory = Unit {0}

-- ---- its status

abbrev pub is_left_out : FileEnd → Bool
is_left_out (end.LeftOut t) = true
is_left_out _ = false

-- an expression of it is left that is refused
abbrev pub has_left : FileEnd → Bool
has_left (end.Fixed f) = f.is_left
has_left _ = false

abbrev pub leaves_out : PathEnd → Bool
leaves_out p = list_any is_left_out p.ends.items

abbrev pub leaves_some : PathEnd → Bool
leaves_some p = list_any has_left p.ends.items

abbrev pub status_of : Run → ℕ
status_of run =
    if list_any leaves_out run.paths.items then 2
    else (if list_any leaves_some run.paths.items then 1 else 0)
