-- What a run of `fix` has come to.
use Rattle.std.specs.Prelude.{◌≡◌, ◌⊎◌, ℕ, false, List, [], ◌∷◌, ◌++◌, String}
use Rattle.std.specs.declared.alloc.Global.{Global}
use Rattle.shelves.specs.declared.shelf.Stamp.{Stamp}
use Rattle.shelves.specs.Shelf.{Shelved}
use Rattle.spdx_commands.specs.Mend.{Done, Setting, setting, worst}
use Rattle.spdx_commands.specs.Nodes.{has_node}
use Rattle.spdx_commands.specs.Replaced.{Attempt, is_replaced}
use Rattle.spdx_commands.specs.declared.deeds.Means.{Means}
use Rattle.spdx_commands.specs.declared.deeds.SoFar.{SoFar}
use Rattle.spdx_commands.specs.declared.nodes.Nodes.{Nodes}
use Rattle.spdx_commands.specs.declared.mending.replacing.Obstacle.{Obstacle}
use Rattle.spdx_commands.specs.declared.mending.replacing.Obstacle.TheVariants as obstacle
use Rattle.spdx_troubles.specs.Causes.{IsFixTrouble, is_of_memory}
use Rattle.spdx_troubles.specs.Status.{status_of}
use Rattle.spdx_troubles.specs.declared.trouble.Trouble.{Trouble}
use Rattle.spdx_troubles.specs.declared.trouble.Trouble.TheVariants as trouble
use Rattle.fix_program.specs.declared.trouble.FixTrouble.{FixTrouble}

-- the shelf, by what it tells, and the list
abbrev pub setting_of : {S : Type 0} → (S → Shelved) → Means S → Setting
setting_of told m = setting (told m.shelf.now) m.catalogue.now m.breaks_links

-- these are the files that hold new bytes already
abbrev pub AreReplaced : Nodes → List Attempt → Type 0
AreReplaced nodes tried = (x : Stamp) → has_node nodes x ≡ is_replaced tried x

-- it was done behind these, with this as its greatest status, and these files are known then
pub record CameOf (nodes : Nodes) (before : List Attempt) (status : ℕ) (Is : Done → Type 0)
    (done : Done) : Type 0 where
  pub is : Is done
  pub status_is : status ≡ worst done.told
  pub replaced : AreReplaced nodes (before ++ done.tried)

-- so it is behind whatever the run had tried, which knew these files
abbrev pub Comes :
    Nodes → Nodes → ℕ → (List Attempt → Done → Type 0) → Done → Type 0
Comes old new status Is done =
    (before : List Attempt) → AreReplaced old before → CameOf new before status (Is before) done

-- so it is of a path, where nothing is yet to be told of another one
abbrev pub ComesOfPath :
    SoFar → SoFar → ℕ → (List Attempt → Done → Type 0) → Done → Type 0
ComesOfPath old new status Is done =
    old.left.items ≡ [] → Comes old.replaced new.replaced status Is done

-- a beginning was done, behind whatever the run had tried, which knew these files
abbrev pub Began : Nodes → (List Attempt → Done → Type 0) → Done → Type 0
Began old Is done = (before : List Attempt) → AreReplaced old before → Is before done

-- so it is of a path, where nothing is yet to be told of another one
abbrev pub BeganPath : SoFar → (List Attempt → Done → Type 0) → Done → Type 0
BeganPath old Is done = old.left.items ≡ [] → Began old.replaced Is done

-- nothing is done yet
pub record IsFresh (so_far : SoFar) : Type 0 where
  pub replaced : AreReplaced so_far.replaced []
  pub none_left : so_far.left.items ≡ []

-- it was done, with this as its greatest status
pub record IsWorst (status : ℕ) (Is : Done → Type 0) (done : Done) : Type 0 where
  pub is : Is done
  pub status_is : status ≡ worst done.told

-- it is told why a file is left out, with this as its status
pub data IsLeftOutTold (t : FixTrouble) (status : ℕ) : List Trouble → Type 0 where
  told : (u : Trouble) → IsFixTrouble t u → status ≡ status_of u →
      IsLeftOutTold t status (u ∷ [])

-- memory was refused, or the file can't be written
abbrev pub IsUnwritten : String Global → Obstacle → Trouble → Type 0
IsUnwritten path (obstacle.Failed e) t =
    (t ≡ trouble.Memory) ⊎ ((is_of_memory e ≡ false) × (t ≡ trouble.Unwritable path e))
IsUnwritten path o t = t ≡ trouble.Memory
