-- What is done with each path.
use Rattle.std.specs.Prelude.{◌≡◌, ◌⊎◌, ℕ, Bool, List, [], ◌∷◌, ◌++◌, Option, None, Some}
use Rattle.std.specs.Borrow.{Bor}
use Rattle.std.specs.Option.{option_copied}
use Rattle.check_files.specs.Told.{Account}
use Rattle.manifests.specs.declared.form.Form.{Form}
use Rattle.manifests.specs.declared.site.Site.{Site}
use Rattle.shelves.specs.Shelf.{Shelved}
use Rattle.source_trees.specs.Readings.{IsNoReading, IsReading}
use Rattle.source_trees.specs.declared.reading.Reading.{Reading}
use Rattle.source_trees.specs.declared.reading.Reading.TheVariants as reading
use Rattle.source_trees.specs.declared.reading.ReadingFault.{ReadingFault}
use Rattle.source_trees.specs.declared.reading.ReadingFault.TheVariants as fault
use Rattle.source_trees.specs.declared.reading.Taken.{Taken}
use Rattle.source_trees.specs.declared.reading.Wanted.{Wanted}
use Rattle.spdx_check.specs.declared.check.Check.{Check}
use Rattle.check_sources.specs.Decoding.{source_bytes, without_mark}
use Rattle.check_files.specs.declared.trouble.CheckTrouble.{CheckTrouble}
use Rattle.check_files.specs.declared.trouble.CheckTrouble.TheVariants as trouble
use Rattle.check_files.specs.Parts.{AreTagsChecked, IsManifestChecked, source_at}
use Rattle.check_files.specs.Passing.{IsPassed, PassesOver}
use Rattle.check_files.specs.Tally.{Tally}
use Rattle.check_program.specs.Steps.{ArePassed}
use Rattle.check_program.specs.Trees.{IsTreeStep, Manner}
use Rattle.check_program.specs.declared.path.Ways as written
use Rattle.shelves.specs.AtPath.{FailsAt, told_path}
use Rattle.check_program.specs.Lines.{Gives, IsLinesStep}

abbrev pub path_in : Bor (List ℕ) → List ℕ
path_in path = path.now

-- which expressions are wanted, the folder of license texts that was named, and whether files
-- without a license are told
pub record Ways : Type 0 where
  pub wanted : Wanted
  pub texts : Option (List ℕ)
  pub untagged : Bool

abbrev pub ways_of : written.Ways → Ways
ways_of w = record { wanted = w.wanted; texts = option_copied w.texts; untagged = w.untagged }

abbrev pub below : Ways → Taken → Manner
below w taken = record { taken = taken; texts = w.texts; untagged = w.untagged }

-- ---- a file that is read whole

-- as a manifest of a form, or else its tags
abbrev pub IsPartChecked : Check → Option Form → List ℕ → List ℕ → Tally → List ℕ → Tally → Type 0
IsPartChecked check (Some form) name bytes old text new =
    (sites : Option (List Site)) × (count : ℕ) ×
    IsManifestChecked check form (source_at name (without_mark bytes)) old sites text count new
IsPartChecked check None name bytes old text new = (count : ℕ) ×
    AreTagsChecked check (source_at name (source_bytes bytes)) old text count new

abbrev pub IsPartRead : Shelved → Check → Option Form → List ℕ → Tally → List ℕ →
    List CheckTrouble → Tally → Type 0
IsPartRead s check form path old text told new = (bytes : List ℕ) × Gives s path bytes
    × IsPartChecked check form (told_path path) bytes old text new × (told ≡ [])

-- it can't be read, or is checked
abbrev pub IsPartStep : Shelved → Check → Option Form → List ℕ → Tally → List ℕ →
    List CheckTrouble → Tally → Type 0
IsPartStep s check form path old text told new = IsPartRead s check form path old text told new
    ⊎ IsPassed (told_path path) (FailsAt s path) old text told new

-- ---- a path

abbrev pub IsReadStep : Shelved → Check → Ways → Reading → List ℕ → Tally → List ℕ →
    List CheckTrouble → Tally → Type 0
IsReadStep s check w reading.Lines path old text told new =
    IsLinesStep s check path old text told new
IsReadStep s check w reading.Tags path old text told new =
    IsPartStep s check None path old text told new
IsReadStep s check w (reading.Manifest form) path old text told new =
    IsPartStep s check (Some form) path old text told new
IsReadStep s check w (reading.Tree taken) path old text told new =
    IsTreeStep s check (below w taken) path old text told new

-- why a path isn't read, as it is told
abbrev pub trouble_of_fault : ReadingFault → Option CheckTrouble
trouble_of_fault (fault.Unreadable n e) = Some (trouble.Unreadable n e)
trouble_of_fault (fault.NoManifest n) = Some (trouble.NoManifest n)
trouble_of_fault (fault.Folder n) = Some (trouble.Folder n)
trouble_of_fault fault.Memory = None

abbrev pub PassesFault : ReadingFault → Account CheckTrouble → Account CheckTrouble →
    Tally → Tally → Type 0
PassesFault f heard heard' old new = (t : CheckTrouble) × (trouble_of_fault f ≡ Some t)
    × PassesOver t heard heard' old new

-- what isn't read is told and passed over
pub record IsUnread (s : Shelved) (w : Ways) (path : List ℕ) (old : Tally) (text : List ℕ)
    (told : List CheckTrouble) (new : Tally) : Type 0 where
  pub fault : ReadingFault
  pub why : CheckTrouble
  pub is_fault : IsNoReading s w.wanted path fault
  pub is_why : trouble_of_fault fault ≡ Some why
  pub passed : ArePassed (why ∷ []) old text told new

abbrev pub IsPathStep : Shelved → Check → Ways → List ℕ → Tally → List ℕ → List CheckTrouble →
    Tally → Type 0
IsPathStep s check w path old text told new =
    ((r : Reading) × IsReading s w.wanted path r × IsReadStep s check w r path old text told new)
    ⊎ IsUnread s w path old text told new

-- ---- all paths

-- one after the other
pub data ArePathSteps (s : Shelved) (check : Check) (w : Ways) :
    List (List ℕ) → Tally → List ℕ → List CheckTrouble → Tally → Type 0 where
  none : {old : Tally} → ArePathSteps s check w [] old [] [] old
  more : {paths : List (List ℕ)} {old between new : Tally} {text : List ℕ}
      {told : List CheckTrouble} (path : List ℕ) (own : List ℕ) (own_told : List CheckTrouble) →
      ArePathSteps s check w paths old text told between →
      IsPathStep s check w path between own own_told new →
      ArePathSteps s check w (paths ++ path ∷ []) old (text ++ own) (told ++ own_told) new
