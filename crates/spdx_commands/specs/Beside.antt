-- What is told of files that runs which were killed left beside those that they were replacing.
use Rattle.std.specs.Prelude.{◌≡◌, ℕ, Bool, true, false, List, [], ◌∷◌, ◌++◌, Option, None, Some, String, IsPermutation, IsSorted, codes, bytes_eq, flat_map, map, string_bytes, if◌then◌else◌}
use Rattle.std.specs.Borrow.{Bor}
use Rattle.std.specs.declared.alloc.Global.{Global}
use Rattle.std.specs.declared.cmp.Ordering.{Ordering}
use Rattle.std.specs.declared.io.Error.{Error}
use Rattle.std.specs.BTreeSet.{BTreeSet, contains}
use Rattle.std.specs.Cmp.Lexicographic.{slice_cmp}
use Rattle.std.specs.List.{list_any}
use Rattle.std.specs.Ordering.{nat_cmp}
use Rattle.std.specs.Path.{rsplit_once}
use Rattle.std.specs.String.{string_cmp}
use Rattle.shelves.specs.Shelf.{Named, Shelved, to_list, to_look}
use Rattle.shelves.specs.declared.shelf.Kind.{Kind}
use Rattle.shelves.specs.declared.shelf.Kind.TheVariants as kind
use Rattle.source_trees.specs.Stops.{below}
use Rattle.source_trees.specs.Visits.{is_beside}
use Rattle.shelves.specs.AtPath.{is_input}
use Rattle.spdx_troubles.specs.declared.trouble.Trouble.{Trouble}
use Rattle.spdx_troubles.specs.declared.trouble.Trouble.TheVariants as trouble

-- ---- a folder

-- the root's path is a slash alone
abbrev pub folder_by : List ℕ → List ℕ
folder_by [] = codes "/"
folder_by folder = folder

abbrev pub folder_at : Option (List ℕ × List ℕ) → List ℕ
folder_at None = codes "."
folder_at (Some (folder, name)) = folder_by folder

-- the folder of the file at a path
abbrev pub folder_of : List ℕ → List ℕ
folder_of path = folder_at (rsplit_once 47 path)

-- a file of such a name was left behind; a folder or a link wasn't
abbrev pub is_left : Kind → List ℕ → Bool
is_left kind.File name = is_beside name
is_left _ name = false

-- the path of what was left behind, if this was
abbrev pub left_at : List ℕ → Named → List (List ℕ)
left_at folder n = if is_left n.kind n.name then below folder n.name ∷ [] else []

-- by ascending paths those in the folder; none, where it can't be read
pub data AreLeftIn (s : Shelved) (folder : List ℕ) (left : List (String Global)) : Type 0 where
  listed : (inside : List Named) (unnamed : ℕ) → s.Lists folder inside unnamed →
      IsPermutation (flat_map (left_at folder) inside) (map string_bytes left) →
      IsSorted string_cmp left → AreLeftIn s folder left
  unread : (e : Error) → s.Fails to_list folder e → left ≡ [] → AreLeftIn s folder left

-- ---- a path

-- what is at the path is no file, can't be looked at, or is standard input
pub data IsNoFile (s : Shelved) (path : List ℕ) : Type 0 where
  at_input : is_input path ≡ true → IsNoFile s path
  at_folder : s.IsFolder path true → IsNoFile s path
  at_nothing : (e : Error) → s.Fails to_look path e → IsNoFile s path

abbrev pub IsFileBy : Bool → Shelved → List ℕ → Type 0
IsFileBy true s path = s.IsFolder path false
IsFileBy false s path = IsNoFile s path

abbrev pub has_folder : List (List ℕ) → List ℕ → Bool
has_folder folders folder = list_any (λ (f : List ℕ). bytes_eq f folder) folders

-- of these folders it is told already; those in the folder of a file are told, if it is none of them
pub data IsBesideOf (s : Shelved) (folders : List (List ℕ)) (path : List ℕ) :
    List (List ℕ) → List Trouble → Type 0 where
  first : (left : List (String Global)) → s.IsFolder path false →
      has_folder folders (folder_of path) ≡ false → AreLeftIn s (folder_of path) left →
      IsBesideOf s folders path (folder_of path ∷ []) (map trouble.LeftBehind left)
  again : s.IsFolder path false → has_folder folders (folder_of path) ≡ true →
      IsBesideOf s folders path [] []
  no_file : IsNoFile s path → IsBesideOf s folders path [] []

-- so it is with each path, and of these folders it is told
pub data AreBeside (s : Shelved) :
    List (List ℕ) → List (List ℕ) → List Trouble → Type 0 where
  none : AreBeside s [] [] []
  one_more : (paths folders more : List (List ℕ)) (path : List ℕ) (told own : List Trouble) →
      AreBeside s paths folders told → IsBesideOf s folders path more own →
      AreBeside s (paths ++ path ∷ []) (folders ++ more) (told ++ own)

abbrev pub AreBesideTold : Shelved → List (List ℕ) → List Trouble → Type 0
AreBesideTold s paths told = (folders : List (List ℕ)) × AreBeside s paths folders told

-- nothing is told where files aren't written
abbrev pub IsBesideTold : Bool → Shelved → List (List ℕ) → List Trouble → Type 0
IsBesideTold true s paths told = AreBesideTold s paths told
IsBesideTold false s paths told = told ≡ []

-- ---- what a run keeps of it

abbrev pub text_cmp : Bor (List ℕ) → Bor (List ℕ) → Ordering
text_cmp x y = slice_cmp nat_cmp x.now y.now

-- the set has just these folders
abbrev pub AreKnown : BTreeSet (Bor (List ℕ)) → List (List ℕ) → Type 0
AreKnown known folders =
    (x : Bor (List ℕ)) → contains text_cmp known x ≡ has_folder folders x.now

-- these troubles are told of the path, behind those of the folders
pub record TellsBeside (s : Shelved) (known known' : BTreeSet (Bor (List ℕ)))
    (folders : List (List ℕ)) (path : List ℕ) (told : List Trouble) : Type 0 where
  pub more : List (List ℕ)
  pub is : IsBesideOf s folders path more told
  pub keeps : AreKnown known' (folders ++ more)
