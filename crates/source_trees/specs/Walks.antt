-- The files below a path, in the order in which a walk comes to them.
use Rattle.std.specs.Prelude.{◌≡◌, ℕ, Bool, true, false, List, [], ◌∷◌, ◌++◌, Option, Some, None, Contains, All, map, reverse, String, string_bytes}
use Rattle.std.specs.declared.alloc.Global.{Global}
use Rattle.std.specs.declared.io.Error.{Error}
use Rattle.shelves.specs.Shelf.{Named, Shelved, to_list}
use Rattle.source_trees.specs.declared.stops.Stop.{Stop}
use Rattle.source_trees.specs.declared.stops.Visit.{Visit}
use Rattle.source_trees.specs.declared.stops.Visit.TheVariants as visit
use Rattle.source_trees.specs.declared.walk.Seen.{Seen}
use Rattle.source_trees.specs.declared.walk.Seen.TheVariants as seen
use Rattle.source_trees.specs.declared.walk.Walk.{Walk}
use Rattle.source_trees.specs.Stops.{AreStopsIn, below}

-- what is seen where a walk comes to each of these in turn: a file is itself, and a folder is
-- followed by what is in it, by ascending paths
pub data AreSeen (s : Shelved) : List Stop → List Seen → Type 0 where
  none : AreSeen s [] []
  file : {stops : List Stop} {after : List Seen} (stop : Stop) → stop.visit ≡ visit.File →
      AreSeen s stops after → AreSeen s (stop ∷ stops) (seen.File stop.path ∷ after)
  left_out : {stops : List Stop} {after : List Seen} (stop : Stop) → stop.visit ≡ visit.LeftOut →
      AreSeen s stops after → AreSeen s (stop ∷ stops) (seen.LeftOut stop.path ∷ after)
  left_behind : {stops : List Stop} {after : List Seen} (stop : Stop) →
      stop.visit ≡ visit.LeftBehind →
      AreSeen s stops after → AreSeen s (stop ∷ stops) (seen.LeftBehind stop.path ∷ after)
  folder : {stops : List Stop} {within after : List Seen} (stop : Stop) (inside : List Named)
      (unnamed : ℕ) (children : List Stop) → stop.visit ≡ visit.Folder →
      s.Lists (string_bytes stop.path) inside unnamed →
      AreStopsIn (string_bytes stop.path) inside children →
      AreSeen s children within → AreSeen s stops after →
      AreSeen s (stop ∷ stops) (seen.Folder stop.path unnamed ∷ (within ++ after))
  unread : {stops : List Stop} {after : List Seen} (stop : Stop) (e : Error) →
      stop.visit ≡ visit.Folder → s.Fails to_list (string_bytes stop.path) e →
      AreSeen s stops after → AreSeen s (stop ∷ stops) (seen.Unread stop.path e ∷ after)

-- what a walk has yet to come to, the next one first
abbrev pub waiting : Walk → List Stop
waiting w = reverse w.stops.items

abbrev pub root_visit : Bool → Visit
root_visit true = visit.Folder
root_visit false = visit.File

-- the path alone is yet to come
pub record IsAlone (path : List ℕ) (is_folder : Bool) (stops : List Stop) : Type 0 where
  pub stop : Stop
  pub alone : stops ≡ stop ∷ []
  pub path_is : string_bytes stop.path ≡ path
  pub visit_is : stop.visit ≡ root_visit is_folder

-- a walk begins with the path itself
abbrev pub IsBegun : Shelved → List ℕ → List Stop → Type 0
IsBegun s path stops = (is : Bool) × s.IsFolder path is × IsAlone path is stops

-- before this is seen that is yet to come, and after it the other: a file is itself, and of a folder
-- what is in it comes next, by ascending paths
pub data IsTaken (s : Shelved) : List Stop → Seen → List Stop → Type 0 where
  a_file : {stops : List Stop} (stop : Stop) → stop.visit ≡ visit.File →
      IsTaken s (stop ∷ stops) (seen.File stop.path) stops
  a_left_out : {stops : List Stop} (stop : Stop) → stop.visit ≡ visit.LeftOut →
      IsTaken s (stop ∷ stops) (seen.LeftOut stop.path) stops
  a_left_behind : {stops : List Stop} (stop : Stop) → stop.visit ≡ visit.LeftBehind →
      IsTaken s (stop ∷ stops) (seen.LeftBehind stop.path) stops
  a_folder : {stops : List Stop} (stop : Stop) (inside : List Named) (unnamed : ℕ)
      (children : List Stop) → stop.visit ≡ visit.Folder →
      s.Lists (string_bytes stop.path) inside unnamed →
      AreStopsIn (string_bytes stop.path) inside children →
      IsTaken s (stop ∷ stops) (seen.Folder stop.path unnamed) (children ++ stops)
  an_unread : {stops : List Stop} (stop : Stop) (e : Error) → stop.visit ≡ visit.Folder →
      s.Fails to_list (string_bytes stop.path) e →
      IsTaken s (stop ∷ stops) (seen.Unread stop.path e) stops

-- these are seen one after the other, behind which that is yet to come
pub data AreTaken (s : Shelved) (begun : List Stop) : List Seen → List Stop → Type 0 where
  nothing_taken : AreTaken s begun [] begun
  then_taken : {all : List Seen} {before after : List Stop} (x : Seen) →
      AreTaken s begun all before → IsTaken s before x after →
      AreTaken s begun (all ++ x ∷ []) after

-- this comes next; at the end there is nothing
abbrev pub IsNext : Shelved → List Stop → Option Seen → List Stop → Type 0
IsNext s before None after = before ≡ []
IsNext s before (Some x) after = IsTaken s before x after

-- the first of what is yet to come is taken
abbrev pub IsPopped : List Stop → Option Stop → List Stop → Type 0
IsPopped before None after = before ≡ []
IsPopped before (Some stop) after = before ≡ stop ∷ after

-- this is seen where a walk comes to the stop, before which that was yet to come
abbrev pub IsStep : Shelved → List Stop → Stop → List Stop → Seen → Type 0
IsStep s before stop after x = IsTaken s (stop ∷ before) x after

-- the same of a folder at this path
abbrev pub IsOpened : Shelved → List Stop → String Global → List Stop → Seen → Type 0
IsOpened s before path after x = (stop : Stop) → stop.path ≡ path → stop.visit ≡ visit.Folder →
    IsStep s before stop after x

-- all that is seen below a path
abbrev pub AreBelow : Shelved → List ℕ → List Seen → Type 0
AreBelow s path all = (stops : List Stop) × IsBegun s path stops × AreSeen s stops all

abbrev pub IsWalked : Shelved → List Stop → List Seen → Type 0
IsWalked s stops all = AreSeen s stops all

abbrev pub path_of : Seen → List ℕ
path_of (seen.File path) = string_bytes path
path_of (seen.Folder path n) = string_bytes path
path_of (seen.LeftOut path) = string_bytes path
path_of (seen.LeftBehind path) = string_bytes path
path_of (seen.Unread path e) = string_bytes path

-- folders lead from the path to this one, each of which has the next one in it
pub data IsBelow (s : Shelved) (root : List ℕ) : List ℕ → Type 0 where
  itself : IsBelow s root root
  inside : (folder : List ℕ) (names : List Named) (unnamed : ℕ) (n : Named) →
      IsBelow s root folder → s.Lists folder names unnamed → Contains names n →
      IsBelow s root (below folder n.name)

-- all of it is below the path
abbrev pub AreAllBelow : Shelved → List ℕ → List Seen → Type 0
AreAllBelow s path all = All (IsBelow s path) (map path_of all)
