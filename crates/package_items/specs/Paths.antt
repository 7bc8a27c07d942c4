-- The folders and files of paths. No path is looked at, and none is made plainer.
use Rattle.std.specs.Prelude.{ℕ, ◌==◌, nat_eq, nat_lt, List, drop, length, Option, Some, None, if◌then◌else◌, option_and_then, codes}
use Rattle.std.specs.List.{starts_with}
use Rattle.std.specs.Path.{rsplit_once}

-- of two cuts of a path, the one that leaves more before it
abbrev pub later : Option (List ℕ × List ℕ) → Option (List ℕ × List ℕ) → Option (List ℕ × List ℕ)
later None other = other
later (Some cut) None = Some cut
later (Some cut) (Some other) =
    if nat_lt (length cut.0) (length other.0) then Some other else Some cut

-- both parts of a path, round its last `/` or `\`
abbrev pub cut : List ℕ → Option (List ℕ × List ℕ)
cut path = later (rsplit_once 47 path) (rsplit_once 92 path)

-- nothing before the separator is the root
abbrev pub or_root : List ℕ → List ℕ
or_root folder = if length folder == 0 then codes "/" else folder

abbrev pub folder_before : Option (List ℕ × List ℕ) → List ℕ
folder_before None = codes "."
folder_before (Some cut) = or_root cut.0

abbrev pub file_behind : List ℕ → Option (List ℕ × List ℕ) → List ℕ
file_behind path None = path
file_behind path (Some cut) = cut.1

-- the folder of the file at a path: what stands before the last separator, or `.`
abbrev pub folder_in : List ℕ → List ℕ
folder_in path = folder_before (cut path)

-- the name of the file at a path: what stands behind the last separator
abbrev pub file_in : List ℕ → List ℕ
file_in path = file_behind path (cut path)

abbrev pub strip : List ℕ → List ℕ → Option (List ℕ)
strip start path =
    if starts_with nat_eq path start then Some (drop (length start) path) else None

-- what stands in a path behind the folder and a slash
abbrev pub behind : List ℕ → List ℕ → Option (List ℕ)
behind folder path = option_and_then (strip (codes "/")) (strip folder path)

abbrev pub or_whole : List ℕ → Option (List ℕ) → List ℕ
or_whole path None = path
or_whole path (Some file) = file

-- the path from a folder that it leads into; any other path stays as it is
abbrev pub file_within : Option (List ℕ) → List ℕ → List ℕ
file_within None path = path
file_within (Some folder) path = or_whole path (behind folder path)
