-- What a path of a command stands for: `-` for standard input, and any other for the file there.
use Rattle.std.specs.Prelude.{ℕ, Bool, true, false, List, bytes_eq, codes, if◌then◌else◌}
use Rattle.std.specs.declared.io.Error.{Error}
use Rattle.shelves.specs.Shelf.{Shelved, to_read}

abbrev pub is_input : List ℕ → Bool
is_input path = bytes_eq path (codes "-")

-- the path, as it is told
abbrev pub told_path : List ℕ → List ℕ
told_path path = if is_input path then codes "<stdin>" else path

abbrev pub IsContentBy : Bool → Shelved → List ℕ → List ℕ → Type 0
IsContentBy true s path bytes = s.IsInput bytes
IsContentBy false s path bytes = s.Holds path bytes

-- it has these bytes
abbrev pub IsContent : Shelved → List ℕ → List ℕ → Type 0
IsContent s path bytes = IsContentBy (is_input path) s path bytes

abbrev pub FailsBy : Bool → Shelved → List ℕ → Error → Type 0
FailsBy true s path e = s.InputFails e
FailsBy false s path e = s.Fails to_read path e

-- it can't be read
abbrev pub FailsAt : Shelved → List ℕ → Error → Type 0
FailsAt s path e = FailsBy (is_input path) s path e
