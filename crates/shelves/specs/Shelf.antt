-- What a shelf tells.
use Rattle.std.specs.Prelude.{ℕ, Bool, List, Option, string_bytes}
use Rattle.std.specs.declared.io.Error.{Error}
use Rattle.shelves.specs.declared.shelf.Entry.{Entry}
use Rattle.shelves.specs.declared.shelf.Kind.{Kind}
use Rattle.shelves.specs.declared.shelf.Stamp.{Stamp}

-- a name in a folder, and what it stands for
pub record Named : Type 0 where
  pub name : List ℕ
  pub kind : Kind

abbrev pub entry_of : Entry → Named
entry_of e = record { name = string_bytes e.name; kind = e.kind }

-- what is wanted of a path: its bytes, at once or piece by piece, what is there, what is in the
-- folder, and where its links lead
pub data Access : Type 0 where
  to_read : Access
  to_open : Access
  to_look : Access
  to_list : Access
  to_follow : Access

-- which bytes the file at a path holds and by what it is known then, what is there, what is in a
-- folder, what a variable says, and which bytes the input has; and of each why it isn't told
pub record Shelved : Type 1 where
  pub Holds : List ℕ → List ℕ → Type 0
  -- the file at the path holds these bytes, and by this it is known to hold them still
  pub HoldsAs : List ℕ → List ℕ → Stamp → Type 0
  pub IsFolder : List ℕ → Bool → Type 0
  -- this stands at the path, or where the link there leads
  pub IsOf : List ℕ → Kind → Type 0
  -- the folder at the path has these in it, in some order, and so many whose names are no UTF-8
  pub Lists : List ℕ → List Named → ℕ → Type 0
  -- with all links followed the path is this one
  pub IsReal : List ℕ → List ℕ → Type 0
  -- this access to the path fails
  pub Fails : Access → List ℕ → Error → Type 0
  -- what is read piece by piece of the path may break off
  pub Breaks : List ℕ → Type 0
  pub Says : List ℕ → Option (List ℕ) → Type 0
  -- the variable is no UTF-8
  pub IsNoText : List ℕ → Type 0
  pub IsInput : List ℕ → Type 0
  pub InputFails : Error → Type 0
  pub InputBreaks : Type 0

-- what tells nothing
abbrev pub silent : Shelved
silent = record {
  Holds = λ path bytes. Unit {0};
  HoldsAs = λ path bytes stamp. Unit {0};
  IsFolder = λ path is. Unit {0};
  IsOf = λ path kind. Unit {0};
  Lists = λ path entries unnamed. Unit {0};
  IsReal = λ path real. Unit {0};
  Fails = λ access path error. Unit {0};
  Breaks = λ path. Unit {0};
  Says = λ name text. Unit {0};
  IsNoText = λ name. Unit {0};
  IsInput = λ bytes. Unit {0};
  InputFails = λ error. Unit {0};
  InputBreaks = Unit {0};
}
