-- How a diff names a file.
use Rattle.std.specs.Prelude.{ℕ, Bool, not, ◌&&◌, List, Option, None, Some, ◌==◌, length, filter, codes, bytes_eq, if◌then◌else◌}
use Rattle.std.specs.List.{join_by, list_any, slice_split}

abbrev pub parts_of : List ℕ → List (List ℕ)
parts_of path = slice_split (λ b. b == 47) path

-- neither nothing nor `.`, which lead nowhere
abbrev pub is_named : List ℕ → Bool
is_named part = not (length part == 0) && not (bytes_eq part (codes "."))

abbrev pub named_parts : List ℕ → List (List ℕ)
named_parts path = filter is_named (parts_of path)

-- without slashes at its start and without `.`: `git apply` refuses these
abbrev pub plain_name : List ℕ → List ℕ
plain_name path = join_by (λ part. part) (codes "/") (named_parts path)

-- one of its parts is `..`
abbrev pub leads_above : List ℕ → Bool
leads_above path = list_any (λ part. bytes_eq part (codes "..")) (parts_of path)

-- none has a file that may stand above the folder in which a diff is applied
abbrev pub diff_name : List ℕ → Option (List ℕ)
diff_name path = if leads_above path then None else Some (plain_name path)
