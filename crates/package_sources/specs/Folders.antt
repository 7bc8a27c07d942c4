-- The names of packages that are named by their folders.
use Rattle.std.specs.Prelude.{ℕ, ◌-◌, Bool, ◌==◌, nat_eq, List, [], ◌∷◌, ◌++◌, drop, length, if◌then◌else◌, codes}
use Rattle.std.specs.List.{starts_with, slice_split}

-- npm's scopes begin with an at sign
abbrev pub is_scope : List ℕ → Bool
is_scope segment = starts_with nat_eq segment (codes "@")

-- a name, with the scope that stands before it
abbrev pub last_of : List ℕ → List ℕ → List ℕ
last_of scope name = if is_scope scope then scope ++ (codes "/" ++ name) else name

-- the name that the last segments of a path give
abbrev pub name_of_ends : List (List ℕ) → List ℕ
name_of_ends (name ∷ []) = name
name_of_ends (scope ∷ name ∷ []) = last_of scope name
name_of_ends ends = []

abbrev pub ends : List (List ℕ) → List (List ℕ)
ends segments = drop (length segments - 2) segments

-- the name of the package in a folder: the last part of its path, with the scope before it if there
-- is one
abbrev pub folder_name : List ℕ → List ℕ
folder_name path = name_of_ends (ends (slice_split (λ b. b == 47) path))
