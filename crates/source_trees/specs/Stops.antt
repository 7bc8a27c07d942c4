-- What is in a folder, in the order in which a walk comes to it.
use Rattle.std.specs.Prelude.{ℕ, Bool, List, [], ◌∷◌, Option, Some, None, codes, bytes_eq, string_bytes, map, flat_map, IsPermutation, IsSorted, if◌then◌else◌}
use Rattle.std.specs.List.{list_any}
use Rattle.std.specs.declared.cmp.Ordering.{Ordering}
use Rattle.std.specs.Ordering.{nat_cmp}
use Rattle.std.specs.Path.{path_join}
use Rattle.std.specs.Cmp.Lexicographic.{slice_cmp}
use Rattle.shelves.specs.declared.shelf.Entry.{Entry}
use Rattle.shelves.specs.Shelf.{Named}
use Rattle.source_trees.specs.declared.stops.Stop.{Stop}
use Rattle.source_trees.specs.declared.stops.Visit.{Visit}
use Rattle.source_trees.specs.Visits.{visit_of}

-- the path of what a walk comes to, and what is done with it
pub record Stopped : Type 0 where
  pub path : List ℕ
  pub visit : Visit

abbrev pub shown_stop : Stop → Stopped
shown_stop s = record { path = string_bytes s.path; visit = s.visit }

abbrev pub by_path : Stop → Stop → Ordering
by_path x y = slice_cmp nat_cmp (string_bytes x.path) (string_bytes y.path)

-- the path of what has this name in the folder; in `.` that is its name
abbrev pub below : List ℕ → List ℕ → List ℕ
below folder name = if bytes_eq folder (codes ".") then name else path_join folder name

abbrev pub has_name : List ℕ → List Entry → Bool
has_name name entries = list_any (λ (e : Entry). bytes_eq (string_bytes e.name) name) entries

abbrev pub has_cargo : List Named → Bool
has_cargo inside = list_any (λ n. bytes_eq n.name (codes "Cargo.toml")) inside

-- a path is come to if this is done with it
abbrev pub stop_at : List ℕ → Option Visit → List Stopped
stop_at path None = []
stop_at path (Some visit) = record { path = path; visit = visit } ∷ []

abbrev pub stop_in : List ℕ → Bool → Named → List Stopped
stop_in folder cargo n = stop_at (below folder n.name) (visit_of cargo n.name n.kind)

abbrev pub looked_at : List ℕ → List Named → List Stopped
looked_at folder inside = flat_map (stop_in folder (has_cargo inside)) inside

-- all that is looked at in the folder, by ascending paths
pub record AreStopsIn (folder : List ℕ) (inside : List Named) (stops : List Stop) : Type 0 where
  pub are : IsPermutation (looked_at folder inside) (map shown_stop stops)
  pub ascend : IsSorted by_path stops
