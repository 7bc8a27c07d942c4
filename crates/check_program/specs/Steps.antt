-- What is done with all that a walk comes to, one after the other.
use Rattle.std.specs.Prelude.{◌≡◌, ℕ, ◌==◌, false, List, [], ◌∷◌, ◌++◌, Option, Some, None, String, string_bytes, if◌then◌else◌}
use Rattle.std.specs.List.{cons_option, list_any}
use Rattle.std.specs.declared.alloc.Global.{Global}
use Rattle.line_engine.specs.Device.{Told}
use Rattle.shelves.specs.Shelf.{Shelved}
use Rattle.source_trees.specs.declared.reading.Taken.{Taken}
use Rattle.source_trees.specs.declared.stops.Stop.{Stop}
use Rattle.source_trees.specs.declared.walk.Seen.{Seen}
use Rattle.source_trees.specs.declared.walk.Seen.TheVariants as seen
use Rattle.source_trees.specs.Walks.{AreSeen, AreTaken}
use Rattle.spdx_check.specs.declared.check.Check.{Check}
use Rattle.check_files.specs.declared.trouble.CheckTrouble.{CheckTrouble}
use Rattle.check_files.specs.declared.trouble.CheckTrouble.TheVariants as trouble
use Rattle.check_files.specs.Files.{IsFileStep}
use Rattle.check_files.specs.Noted.{Notes}
use Rattle.check_files.specs.Passing.{PassesOver, is_of_memory}
use Rattle.check_files.specs.Tally.{Tally, passed_over, with_left_out}
use Rattle.check_files.specs.Told.{Account, Does, Hears}

-- ---- troubles

-- why what is seen is passed over, if it is: a folder that can't be read, and what is in one whose
-- names are no UTF-8
abbrev pub trouble_of : Seen → Option CheckTrouble
trouble_of (seen.Folder n unnamed) =
    if unnamed == 0 then None else Some (trouble.Unnamed n unnamed)
trouble_of (seen.Unread n e) = Some (trouble.Unreadable n e)
trouble_of _ = None

abbrev pub passed_by : List CheckTrouble → Tally → Tally
passed_by [] old = old
passed_by (t ∷ ts) old = passed_over old

-- these are told, none of which is of memory; where there is one, the status says so
pub record ArePassed (ts : List CheckTrouble) (old : Tally) (text : List ℕ)
    (told : List CheckTrouble) (new : Tally) : Type 0 where
  pub text_is : text ≡ []
  pub told_is : told ≡ ts
  pub new_is : new ≡ passed_by ts old
  pub have_memory : list_any is_of_memory ts ≡ false

-- the same of one trouble, or of none
abbrev pub PassesIf : Option CheckTrouble → Account CheckTrouble →
    Account CheckTrouble → Tally → Tally → Type 0
PassesIf None heard heard' old new = Hears heard heard' [] × (new ≡ old)
PassesIf (Some t) heard heard' old new = PassesOver t heard heard' old new

-- the same of all of these
pub record PassesAll (ts : List CheckTrouble) (heard heard' : Account CheckTrouble)
    (old new : Tally) : Type 0 where
  pub tells : Hears heard heard' ts
  pub counts : new ≡ passed_by ts old
  pub have_memory : list_any is_of_memory ts ≡ false

abbrev pub listed : Option CheckTrouble → List CheckTrouble
listed t = cons_option t []

-- ---- one after the other

-- what runs that were killed left is kept for the end
abbrev pub with_left : String Global → Notes → Notes
with_left path n = record n { left_behind = n.left_behind ++ path ∷ [] }

-- a file is checked, what is left out is counted, and what can't be read is told
abbrev pub IsSeenStep : Shelved → Check → Taken → Option (List ℕ) → Seen → Tally → Notes →
    List ℕ → List CheckTrouble → Tally → Notes → Type 0
IsSeenStep s check t folder (seen.File n) old noted text told new noted' =
    IsFileStep s check t folder (string_bytes n) old noted text told new noted'
IsSeenStep s check t folder (seen.LeftOut n) old noted text told new noted' =
    (text ≡ []) × (told ≡ []) × (new ≡ with_left_out (string_bytes n) old) × (noted' ≡ noted)
IsSeenStep s check t folder (seen.LeftBehind n) old noted text told new noted' =
    (text ≡ []) × (told ≡ []) × (new ≡ old) × (noted' ≡ with_left n noted)
IsSeenStep s check t folder (seen.Folder n unnamed) old noted text told new noted' =
    ArePassed (listed (trouble_of (seen.Folder n unnamed))) old text told new × (noted' ≡ noted)
IsSeenStep s check t folder (seen.Unread n e) old noted text told new noted' =
    ArePassed (listed (trouble_of (seen.Unread n e))) old text told new × (noted' ≡ noted)

pub data AreSteps (s : Shelved) (check : Check) (t : Taken) (folder : Option (List ℕ)) :
    List Seen → Tally → Notes → List ℕ → List CheckTrouble → Tally → Notes → Type 0 where
  none : {old : Tally} {noted : Notes} → AreSteps s check t folder [] old noted [] [] old noted
  more : {all : List Seen} {old between new : Tally} {noted notes noted' : Notes}
      {text : List ℕ} {told : List CheckTrouble} (x : Seen) (own : List ℕ)
      (own_told : List CheckTrouble) →
      AreSteps s check t folder all old noted text told between notes →
      IsSeenStep s check t folder x between notes own own_told new noted' →
      AreSteps s check t folder (all ++ x ∷ []) old noted (text ++ own) (told ++ own_told)
      new noted'

-- ---- a walk

-- all that a walk has yet to come to
pub record IsWalked (s : Shelved) (check : Check) (t : Taken) (folder : Option (List ℕ))
    (stops : List Stop) (old : Tally) (noted : Notes) (out out' : Told)
    (heard heard' : Account CheckTrouble) (new : Tally) (noted' : Notes) : Type 0 where
  pub all : List Seen
  pub sees : AreSeen s stops all
  pub does : Does out out' heard heard' (λ text told.
      AreSteps s check t folder all old noted text told new noted')

-- what a walk came to, and what it has yet to come to
pub record IsSoFar (s : Shelved) (check : Check) (t : Taken) (folder : Option (List ℕ))
    (begun now : List Stop) (old : Tally) (noted : Notes) (out out' : Told)
    (heard heard' : Account CheckTrouble) (new : Tally) (noted' : Notes) : Type 0 where
  pub all : List Seen
  pub came : AreTaken s begun all now
  pub does : Does out out' heard heard' (λ text told.
      AreSteps s check t folder all old noted text told new noted')
