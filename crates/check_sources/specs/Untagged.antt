-- Which files need to tell no license.
use Rattle.std.specs.Prelude.{◌≡◌, ◌<◌, ℕ, ◌==◌, Bool, true, false, ◌||◌, ◌&&◌, List, [], ◌∷◌, ◌++◌, IfSome, Option, Some, None, bytes_eq, codes, length, nat_eq, not, slice_index, if◌then◌else◌}
use Rattle.std.specs.List.{ends_with, list_all, starts_with}
use Rattle.std.specs.Path.{IsRelative, parent_dir, path_names, root_dir, slash}
use Rattle.check_sources.specs.Owed.{name_of}

-- the parts of a path: the root, where it begins there, and its names but for `.`
abbrev pub root_of : List ℕ → List (List ℕ)
root_of path = if slice_index path 0 == slash then root_dir ∷ [] else []

abbrev pub parts_of : List ℕ → List (List ℕ)
parts_of path = root_of path ++ path_names path

-- it leads neither up nor to the root
abbrev pub leads_down : List ℕ → Bool
leads_down part = not (bytes_eq part parent_dir || bytes_eq part root_dir)

-- the second parts begin with the first, and then lead down
abbrev pub continues : List (List ℕ) → List (List ℕ) → Bool
continues [] rest = list_all leads_down rest
continues (part ∷ parts) [] = false
continues (part ∷ parts) (other ∷ others) = bytes_eq part other && continues parts others

-- a license text is below the folder of such texts, where there is one
abbrev pub is_text : Option (List ℕ) → List ℕ → Bool
is_text None path = false
is_text (Some folder) path = continues (parts_of folder) (parts_of path)

-- a slash at the end of the folder makes no difference
abbrev pub IsSameBySlash : Option (List ℕ) → List ℕ → Bool → Type 0
IsSameBySlash folder path is = IfSome folder (λ f. 0 < length f →
    is ≡ is_text (Some (f ++ codes "/")) path)

-- nor does `./` in front of it
abbrev pub IsSameFromHere : Option (List ℕ) → List ℕ → Bool → Type 0
IsSameFromHere folder path is = IfSome folder (λ f. IsRelative f →
    is ≡ is_text (Some (codes "./" ++ f)) path)

-- nor in front of the path
abbrev pub IsSamePathFromHere : Option (List ℕ) → List ℕ → Bool → Type 0
IsSamePathFromHere folder path is = IsRelative path → is ≡ is_text folder (codes "./" ++ path)

-- the names that license texts have anywhere
abbrev pub is_license_text : List ℕ → Bool
is_license_text name = starts_with nat_eq name (codes "LICENSE") ||
    starts_with nat_eq name (codes "LICENCE") || starts_with nat_eq name (codes "COPYING")

abbrev pub is_empty : List ℕ → Bool
is_empty [] = true
is_empty (b ∷ bytes) = false

-- a file that tells the license of the one beside it
abbrev pub tells_other : List ℕ → Bool
tells_other path = ends_with nat_eq path (codes ".license")

-- an empty file, a license text, and what tells the license of the file beside it
abbrev pub needs_none : Option (List ℕ) → List ℕ → List ℕ → Bool
needs_none folder path bytes = is_empty bytes || is_license_text (name_of path) ||
    tells_other path || is_text folder path
