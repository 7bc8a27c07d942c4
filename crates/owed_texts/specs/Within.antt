-- What lies within folders.
use Rattle.std.specs.Prelude.{◌≡◌, ◌⊎◌, ℕ, ◌==◌, Bool, true, false, ◌&&◌, ◌||◌, List, [], ◌∷◌, Option, None, Some, bytes_eq, codes, drop, length, take}
use Rattle.shelves.specs.Shelf.{Access, Shelved, to_follow, to_look, to_read}
use Rattle.shelves.specs.declared.shelf.Kind.TheVariants as kind
use Rattle.owed_texts.specs.declared.trouble.Obstacle.{Obstacle}
use Rattle.owed_texts.specs.declared.trouble.Obstacle.TheVariants as obstacle
use Rattle.owed_texts.specs.declared.trouble.TextTrouble.{TextTrouble}
use Rattle.owed_texts.specs.Trouble.{IsTold, is_of_memory}

-- ---- paths

abbrev pub begins_below : List ℕ → Bool
begins_below [] = false
begins_below (b ∷ bytes) = b == 47

-- the path begins with the folder's, and goes on below it
abbrev pub is_below : List ℕ → List ℕ → Bool
is_below folder path =
    bytes_eq (take (length folder) path) folder &&
    (bytes_eq folder (codes "/") || begins_below (drop (length folder) path))

-- with all links followed the path is below the folder, or isn't
abbrev pub IsBelow : Shelved → List ℕ → List ℕ → Bool → Type 0
IsBelow s folder path is =
    (base : List ℕ) × (real : List ℕ) × s.IsReal folder base × s.IsReal path real ×
    (is_below base real ≡ is)

abbrev pub IsWithin : Shelved → List ℕ → List ℕ → Type 0
IsWithin s folder path = IsBelow s folder path true

-- where a folder is named, the path is within it
abbrev pub IsPlaced : Shelved → Option (List ℕ) → List ℕ → Type 0
IsPlaced s None path = Unit {0}
IsPlaced s (Some folder) path = IsWithin s folder path

-- ---- what is read

-- a file or a folder is there
abbrev pub IsNotSpecial : Shelved → List ℕ → Type 0
IsNotSpecial s path = s.IsOf path kind.File ⊎ s.IsOf path kind.Folder

-- the file at the path holds the bytes, is no device, and stands in the folder where one is named
pub record IsReadWithin (s : Shelved) (folder : Option (List ℕ)) (path bytes : List ℕ) :
    Type 0 where
  pub regular : IsNotSpecial s path
  pub placed : IsPlaced s folder path
  pub holds : s.Holds path bytes

-- ---- and why it isn't

-- the system tells an error of this access to the path, other than of memory
abbrev pub FailsAt : Shelved → Access → List ℕ → Obstacle → Type 0
FailsAt s access path (obstacle.Unreadable e) = s.Fails access path e × (is_of_memory e ≡ false)
FailsAt s access path w = ⊥

abbrev pub IsFailing : Shelved → Access → List ℕ → List ℕ → TextTrouble → Type 0
IsFailing s access name path t = IsTold name path (FailsAt s access path) t

abbrev pub IsNotRegular : Shelved → List ℕ → Obstacle → Type 0
IsNotRegular s path obstacle.Special = s.IsOf path kind.Other
IsNotRegular s path w = FailsAt s to_look path w

abbrev pub IsNotLooked : Shelved → List ℕ → List ℕ → TextTrouble → Type 0
IsNotLooked s name path t = IsTold name path (IsNotRegular s path) t

-- the path leads out of the folder, or the links of one of both can't be followed
abbrev pub LeadsOut : Shelved → List ℕ → List ℕ → Obstacle → Type 0
LeadsOut s folder path obstacle.LeadsOut = IsBelow s folder path false
LeadsOut s folder path w = FailsAt s to_follow path w

abbrev pub IsOutside : Shelved → List ℕ → List ℕ → List ℕ → TextTrouble → Type 0
IsOutside s name folder path t =
    IsFailing s to_follow name folder t ⊎ IsTold name path (LeadsOut s folder path) t

abbrev pub IsNotPlaced : Shelved → List ℕ → Option (List ℕ) → List ℕ → TextTrouble → Type 0
IsNotPlaced s name None path t = ⊥
IsNotPlaced s name (Some folder) path t = IsOutside s name folder path t

-- the path is of a device, leads out of the folder, or can't be read
abbrev pub IsUnreadWithin : Shelved → List ℕ → Option (List ℕ) → List ℕ → TextTrouble → Type 0
IsUnreadWithin s name folder path t =
    IsNotLooked s name path t ⊎ (IsNotPlaced s name folder path t ⊎ IsFailing s to_read name path t)
