-- The names of what is in a folder.
use Rattle.std.specs.Prelude.{◌<◌, ◌⊎◌, ℕ, List, [], ◌∷◌, IsPermutation, IsSortedByKey, String, flat_map, map, string_bytes}
use Rattle.std.specs.Cmp.Lexicographic.{slice_cmp}
use Rattle.std.specs.Ordering.{nat_cmp}
use Rattle.std.specs.declared.alloc.Global.{Global}
use Rattle.shelves.specs.Shelf.{Named, Shelved, to_list}
use Rattle.shelves.specs.declared.shelf.Kind.{Kind}
use Rattle.shelves.specs.declared.shelf.Kind.TheVariants as kind
use Rattle.owed_texts.specs.declared.trouble.Obstacle.TheVariants as obstacle
use Rattle.owed_texts.specs.declared.trouble.TextTrouble.{TextTrouble}
use Rattle.owed_texts.specs.Trouble.{IsOf}
use Rattle.owed_texts.specs.Within.{IsFailing}

abbrev pub name_by : Kind → List ℕ → List (List ℕ)
name_by kind.File name = name ∷ []
name_by kind.Folder name = []
name_by kind.Other name = name ∷ []

abbrev pub name_of : Named → List (List ℕ)
name_of e = name_by e.kind e.name

-- of what is in a folder the names of all but folders
abbrev pub names_in : List Named → List (List ℕ)
names_in entries = flat_map name_of entries

-- the same in the order of their bytes
pub record AreSorted (entries : List Named) (names : List (String Global)) : Type 0 where
  pub same : IsPermutation (names_in entries) (map string_bytes names)
  pub ascend : IsSortedByKey string_bytes (slice_cmp nat_cmp) names

-- each name in the folder is UTF-8
pub record AreNames (s : Shelved) (folder : List ℕ) (names : List (String Global)) : Type 0 where
  pub entries : List Named
  pub lists : s.Lists folder entries 0
  pub sorted : AreSorted entries names

-- some name isn't
abbrev pub IsUnnamed : Shelved → List ℕ → Type 0
IsUnnamed s folder = (entries : List Named) × (unnamed : ℕ) ×
    s.Lists folder entries unnamed × (0 < unnamed)

abbrev pub AreNoNames : Shelved → List ℕ → List ℕ → TextTrouble → Type 0
AreNoNames s name folder t =
    IsFailing s to_list name folder t ⊎ (IsUnnamed s folder × IsOf name folder obstacle.Unnamed t)
