-- Which list is read.
use Rattle.std.specs.Prelude.{◌≡◌, ℕ, Bool, true, false, List, [], Option, Some, None, Ok, filter, codes, is_some}
use Rattle.std.specs.Path.{path_join}
use Rattle.spdx_requirement.specs.Rows.{Rows, ImpreciseRow}
use Rattle.spdx_catalogue.specs.LookUps.{listed}
use Rattle.spdx_catalogue.specs.Names.{without_plus}
use Rattle.spdx_catalogue.specs.Reading.{catalogue_in}
use Rattle.spdx_list.specs.Files.{ExtraRows, extras_in}
use Rattle.spdx_list.specs.Made.{Makes}
use Rattle.list_program.specs.Reading.{IsListOf}
use Rattle.shelves.specs.Shelf.{Shelved}

-- what a program has inside: a list as lines, and what this project says besides SPDX's files
pub record InsideBytes : Type 0 where
  pub list : List ℕ
  pub extras : List ℕ

abbrev pub inside_of : List ℕ → List ℕ → InsideBytes
inside_of list extras = record { list = list; extras = extras }

abbrev pub no_extras : ExtraRows
no_extras = record { copyleft = []; imprecise = []; instead = [] }

-- the list has the licence of the imprecise name
abbrev pub is_of_listed : Rows → ImpreciseRow → Bool
is_of_listed c r = is_some (listed c.licenses (without_plus r.name))

-- the extras without the imprecise names of licences that the list hasn't
abbrev pub of_listed : Rows → ExtraRows → ExtraRows
of_listed c x =
    record {
      copyleft = x.copyleft;
      imprecise = filter (is_of_listed c) x.imprecise;
      instead = x.instead;
    }

-- SPDX's two files make the list, with what the extras say of the licences that they list
pub record MakesWith (extras : ExtraRows) (licenses exceptions : List ℕ) (c : Rows) : Type 0 where
  pub bare : Rows
  pub lists : Makes licenses exceptions no_extras bare
  pub makes : Makes licenses exceptions (of_listed bare extras) c

-- the list of a file is what its bytes hold
pub record IsListOfFile (s : Shelved) (path : List ℕ) (c : Rows) : Type 0 where
  pub bytes : List ℕ
  pub holds : s.Holds path bytes
  pub list : catalogue_in bytes ≡ Ok c

-- the list of a folder is what the two files below it make, which have the names that SPDX gives
-- them
pub record IsListOfFolder (s : Shelved) (extras folder : List ℕ) (c : Rows) : Type 0 where
  pub licenses : List ℕ
  pub exceptions : List ℕ
  pub rows : ExtraRows
  pub says : extras_in extras ≡ Ok rows
  pub holds_licenses : s.Holds (path_join folder (codes "licenses.json")) licenses
  pub holds_exceptions : s.Holds (path_join folder (codes "exceptions.json")) exceptions
  pub makes : MakesWith rows licenses exceptions c

abbrev pub IsListBy : Shelved → List ℕ → List ℕ → Bool → Rows → Type 0
IsListBy s extras path false c = IsListOfFile s path c
IsListBy s extras path true c = IsListOfFolder s extras path c

-- the list at a path
abbrev pub IsListAt : Shelved → List ℕ → List ℕ → Rows → Type 0
IsListAt s extras path c =
    (is_folder : Bool) × s.IsFolder path is_folder × IsListBy s extras path is_folder c

-- the list that a variable says: the one at its path; where it isn't set, the one inside
abbrev pub IsListSaid : Shelved → InsideBytes → Option (List ℕ) → Rows → Type 0
IsListSaid s inside (Some path) c = IsListAt s inside.extras path c
IsListSaid s inside None c = IsListOf inside.list c

-- the list that is used: the one at the path that was given, else the one that SPDX_LIST says
abbrev pub IsNamedList : Shelved → InsideBytes → Option (List ℕ) → Rows → Type 0
IsNamedList s inside (Some path) c = IsListAt s inside.extras path c
IsNamedList s inside None c =
    (said : Option (List ℕ)) × s.Says (codes "SPDX_LIST") said × IsListSaid s inside said c
