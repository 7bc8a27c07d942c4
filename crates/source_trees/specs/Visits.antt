-- What is done with something in a folder, by its name.
use Rattle.std.specs.Prelude.{ℕ, Bool, false, List, Option, Some, None, drop, length, codes, bytes_eq, nat_eq, ◌||◌, ◌&&◌, if◌then◌else◌}
use Rattle.std.specs.Char.{is_ascii_hexdigit}
use Rattle.std.specs.List.{list_all, starts_with}
use Rattle.shelves.specs.declared.shelf.Kind.{Kind}
use Rattle.shelves.specs.declared.shelf.Kind.TheVariants as kind
use Rattle.source_trees.specs.declared.stops.Visit.{Visit}
use Rattle.source_trees.specs.declared.stops.Visit.TheVariants as visit

-- what a name has behind the mark of a new file that is to take the place of another one
abbrev pub behind_mark : List ℕ → Option (List ℕ)
behind_mark name =
    if starts_with nat_eq name (codes ".spdx-") then Some (drop 6 name) else None

abbrev pub are_digits : List ℕ → Bool
are_digits digits = list_all is_ascii_hexdigit digits

-- sixteen hexadecimal digits are
abbrev pub is_number : Option (List ℕ) → Bool
is_number None = false
is_number (Some digits) = nat_eq (length digits) 16 && are_digits digits

-- the name of such a file: the mark, and sixteen digits
abbrev pub is_beside : List ℕ → Bool
is_beside name = is_number (behind_mark name)

-- the folders of version control, which nobody misses
abbrev pub is_history : List ℕ → Bool
is_history name =
    bytes_eq name (codes ".git") || bytes_eq name (codes ".hg") ||
    bytes_eq name (codes ".svn") || bytes_eq name (codes ".jj")

-- the folder of license texts, which speak of tags and have none
abbrev pub is_texts : List ℕ → Bool
is_texts name = bytes_eq name (codes "LICENSES")

-- the folders of tools: packages that were installed, and what Python compiled
unfoldable pub is_tools : List ℕ → Bool
is_tools name =
    bytes_eq name (codes "node_modules") || bytes_eq name (codes "__pycache__") ||
    bytes_eq name (codes ".venv") || bytes_eq name (codes ".tox")

-- what others wrote or a program made; beside a `Cargo.toml` that is `target` too
abbrev pub is_made : Bool → List ℕ → Bool
is_made has_cargo name = (has_cargo && bytes_eq name (codes "target")) || is_tools name

abbrev pub folder_visit : Bool → List ℕ → Option Visit
folder_visit has_cargo name =
    if is_history name || is_texts name then None else
    if is_made has_cargo name then Some visit.LeftOut else Some visit.Folder

-- links, devices, license texts and folders of version control aren't looked at; folders that were
-- made are left out
abbrev pub visit_of : Bool → List ℕ → Kind → Option Visit
visit_of has_cargo name kind.Other = None
visit_of has_cargo name kind.File =
    if is_beside name then Some visit.LeftBehind else Some visit.File
visit_of has_cargo name kind.Folder = folder_visit has_cargo name
