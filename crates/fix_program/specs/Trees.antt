-- What comes of the files below a folder.
use Rattle.std.specs.Prelude.{◌≡◌, ◌⊎◌, ℕ, Bool, true, false, List, [], ◌∷◌, ◌++◌, Option, None, Some, ◌==◌, String, codes, string_bytes, if◌then◌else◌}
use Rattle.std.specs.declared.alloc.Global.{Global}
use Rattle.std.specs.declared.io.Error.{Error}
use Rattle.manifests.specs.declared.form.Form.{Form}
use Rattle.shelves.specs.Shelf.{Shelved, to_look}
use Rattle.source_trees.specs.declared.stops.Stop.{Stop}
use Rattle.source_trees.specs.Readings.{form_below}
use Rattle.source_trees.specs.declared.reading.Taken.{Taken}
use Rattle.source_trees.specs.declared.walk.Seen.{Seen}
use Rattle.source_trees.specs.declared.walk.Seen.TheVariants as seen
use Rattle.source_trees.specs.Walks.{AreSeen, AreTaken, IsBegun}
use Rattle.spdx_requirement.specs.Rows.{Rows}
use Rattle.fix_program.specs.declared.ends.FileEnd.{FileEnd}
use Rattle.fix_program.specs.declared.ends.FileEnd.TheVariants as end
use Rattle.file_fixes.specs.declared.mended.Parts.{Parts}
use Rattle.file_fixes.specs.declared.mended.Parts.TheVariants as parts
use Rattle.fix_program.specs.declared.trouble.FixTrouble.TheVariants as trouble
use Rattle.fix_program.specs.Ends.{IsFileEnd}
use Rattle.shelves.specs.AtPath.{is_input}
use Rattle.fix_program.specs.Troubles.{is_of_memory}

-- ---- which parts of a file are mended

abbrev pub parts_by : Bool → Option Form → Option Parts
parts_by false None = None
parts_by false (Some form) = Some (parts.Source (Some form) false)
parts_by true form = Some (parts.Source form true)

-- what it declares, and its tags, as they are taken
abbrev pub parts_below : Taken → List ℕ → Option Parts
parts_below t path = parts_by t.tags (form_below t path)

-- ---- what comes of what a walk comes to

-- `-` is standard input where a run names it; below a folder it is a file of that name
abbrev pub as_file : List ℕ → List ℕ
as_file path = if is_input path then codes "./-" else path

abbrev pub AreEndsOfFile : Shelved → Rows → Bool → Option Parts → List ℕ → List FileEnd → Type 0
AreEndsOfFile s c w None path ends = ends ≡ []
AreEndsOfFile s c w (Some p) path ends =
    (e : FileEnd) × IsFileEnd s c w p (as_file path) e × (ends ≡ e ∷ [])

-- it can't be read, and not for want of memory
abbrev pub IsUnreadEnd : List ℕ → Error → List FileEnd → Type 0
IsUnreadEnd path e ends =
    (n : String Global) × (string_bytes n ≡ path) ×
    (ends ≡ end.LeftOut (trouble.Unreadable n e) ∷ []) ×
    (is_of_memory (trouble.Unreadable n e) ≡ false)

-- those in it are left out whose names are no UTF-8
abbrev pub AreUnnamed : String Global → ℕ → List FileEnd → Type 0
AreUnnamed n unnamed ends =
    ends ≡ (if unnamed == 0 then [] else end.LeftOut (trouble.Unnamed n unnamed) ∷ [])

-- a file ends as one of its parts does, and a folder that can't be read is left out
abbrev pub AreEndsOf : Shelved → Rows → Bool → Taken → Seen → List FileEnd → Type 0
AreEndsOf s c w t (seen.File n) ends =
    AreEndsOfFile s c w (parts_below t (string_bytes n)) (string_bytes n) ends
AreEndsOf s c w t (seen.Folder n unnamed) ends = AreUnnamed n unnamed ends
AreEndsOf s c w t (seen.LeftOut n) ends = ends ≡ []
AreEndsOf s c w t (seen.LeftBehind n) ends = ends ≡ end.LeftBehind n ∷ []
AreEndsOf s c w t (seen.Unread n e) ends =
    (ends ≡ end.LeftOut (trouble.Unreadable n e) ∷ []) ×
    (is_of_memory (trouble.Unreadable n e) ≡ false)

-- the same of each of these, one behind the other
pub data AreEnds (s : Shelved) (c : Rows) (w : Bool) (t : Taken) :
    List Seen → List FileEnd → Type 0 where
  none : AreEnds s c w t [] []
  next : {all : List Seen} {ends : List FileEnd} (x : Seen) (own : List FileEnd) →
      AreEndsOf s c w t x own → AreEnds s c w t all ends →
      AreEnds s c w t (x ∷ all) (own ++ ends)

-- ---- all below a folder

-- of all that a walk has yet to come to
abbrev pub AreWalkEnds : Shelved → Rows → Bool → Taken → List Stop → List FileEnd → Type 0
AreWalkEnds s c w t stops ends =
    (all : List Seen) × AreSeen s stops all × AreEnds s c w t all ends

-- of all that is below the path; it is left out where it can't be looked at
abbrev pub AreTreeEnds : Shelved → Rows → Bool → Taken → List ℕ → List FileEnd → Type 0
AreTreeEnds s c w t path ends =
    ((stops : List Stop) × IsBegun s path stops × AreWalkEnds s c w t stops ends)
    ⊎ ((e : Error) × s.Fails to_look path e × IsUnreadEnd path e ends)

-- ---- one more

abbrev pub AddsFile : Shelved → Rows → Bool → Taken → List ℕ → List FileEnd → List FileEnd → Type 0
AddsFile s c w t path old new =
    (own : List FileEnd) × AreEndsOfFile s c w (parts_below t path) path own × (new ≡ old ++ own)

abbrev pub AddsUnnamed : String Global → ℕ → List FileEnd → List FileEnd → Type 0
AddsUnnamed n unnamed old new =
    (own : List FileEnd) × AreUnnamed n unnamed own × (new ≡ old ++ own)

abbrev pub AddsUnread : String Global → Error → List FileEnd → List FileEnd → Type 0
AddsUnread n e old new =
    (new ≡ old ++ end.LeftOut (trouble.Unreadable n e) ∷ []) ×
    (is_of_memory (trouble.Unreadable n e) ≡ false)

abbrev pub AddsEnds : Shelved → Rows → Bool → Taken → Seen → List FileEnd → List FileEnd → Type 0
AddsEnds s c w t x old new =
    (own : List FileEnd) × AreEndsOf s c w t x own × (new ≡ old ++ own)

-- the ends of what a walk came to, and what it has yet to come to
pub record AreSoFar (s : Shelved) (c : Rows) (w : Bool) (t : Taken) (begun now : List Stop)
    (ends : List FileEnd) : Type 0 where
  pub all : List Seen
  pub came : AreTaken s begun all now
  pub are : AreEnds s c w t all ends
