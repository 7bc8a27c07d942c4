-- Which files of a package are owed.
use Rattle.std.specs.Prelude.{◌≡◌, ℕ, Bool, true, false, not, ◌&&◌, ◌||◌, ◌⊎◌, List, Contains, codes, filter}
use Rattle.notice_texts.specs.declared.files.File.{File}
use Rattle.notice_texts.specs.Names.{name_in, begins, says_one}

-- a file as the package has it
pub record Seen : Type 0 where
  pub path : List ℕ
  pub is_declared : Bool

abbrev pub seen : File → Seen
seen f = record { path = f.path.now; is_declared = f.is_declared }

-- the name is one by which the text of a license goes
abbrev pub is_license_name : List ℕ → Bool
is_license_name name =
    begins name (codes "license") || (begins name (codes "licence")
    || (begins name (codes "copying") || begins name (codes "unlicense")))

-- the name is one by which texts go that stand beside a license
abbrev pub is_beside_name : List ℕ → Bool
is_beside_name name =
    begins name (codes "copyright")
    || (begins name (codes "notice") || begins name (codes "authors"))

-- the package gives the file as a text: it declares it, or the name says so
abbrev pub is_text : Seen → Bool
is_text f =
    f.is_declared || (is_license_name (name_in f.path) || is_beside_name (name_in f.path))

-- the file is the text of a license itself
abbrev pub is_license_text : Seen → Bool
is_license_text f = f.is_declared || is_license_name (name_in f.path)

-- the name says a license that is offered, and none that is chosen
abbrev pub is_of_others : List (List ℕ) → List (List ℕ) → List ℕ → Bool
is_of_others offered chosen name = says_one name offered && not (says_one name chosen)

abbrev pub is_owed : List (List ℕ) → List (List ℕ) → Seen → Bool
is_owed offered chosen f = is_text f && not (is_of_others offered chosen (name_in f.path))

-- the files that are owed, in their order
abbrev pub owed : List (List ℕ) → List (List ℕ) → List Seen → List Seen
owed offered chosen files = filter (is_owed offered chosen) files

-- a text may be owed where its name says a license that is chosen, or none of those that are
-- offered
abbrev pub MayBeOwed : List (List ℕ) → List (List ℕ) → Seen → Type 0
MayBeOwed offered chosen f =
    (is_text f ≡ true) ×
    ((says_one (name_in f.path) chosen ≡ true) ⊎ (says_one (name_in f.path) offered ≡ false))

-- nothing that may be owed is left out
abbrev pub LeavesNothingOut : List (List ℕ) → List (List ℕ) → List Seen → List Seen → Type 0
LeavesNothingOut offered chosen files found =
    (f : Seen) → Contains files f → MayBeOwed offered chosen f → Contains found f

-- nothing else is there: no other file, and none of a license that is offered and wasn't chosen
abbrev pub HasNothingElse : List (List ℕ) → List (List ℕ) → List Seen → List Seen → Type 0
HasNothingElse offered chosen files found =
    (f : Seen) → Contains found f → Contains files f × MayBeOwed offered chosen f
