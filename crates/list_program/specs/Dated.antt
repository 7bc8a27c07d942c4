-- The date of the list that is read.
use Rattle.std.specs.Prelude.{◌≡◌, ℕ, Bool, true, false, List, Option, Some, None, codes}
use Rattle.std.specs.Path.{path_join}
use Rattle.spdx_tables.specs.TableReading.{date_in}
use Rattle.list_program.specs.Lines.{day_in}
use Rattle.spdx_list.specs.Dates.{released_in}
use Rattle.shelves.specs.Shelf.{Shelved}
use Rattle.list_program.specs.Named.{InsideBytes}

-- of a file, what its bytes have
abbrev pub IsDateOfFile : Shelved → List ℕ → Option (List ℕ) → Type 0
IsDateOfFile s path date = (bytes : List ℕ) × s.Holds path bytes × (date ≡ date_in bytes)

-- of a folder, what SPDX's file of licences tells
abbrev pub IsDateOfFolder : Shelved → List ℕ → Option (List ℕ) → Type 0
IsDateOfFolder s folder date =
    (licenses : List ℕ) × s.Holds (path_join folder (codes "licenses.json")) licenses ×
    (date ≡ released_in licenses)

abbrev pub IsDateBy : Shelved → List ℕ → Bool → Option (List ℕ) → Type 0
IsDateBy s path false date = IsDateOfFile s path date
IsDateBy s path true date = IsDateOfFolder s path date

-- of the list at a path
abbrev pub IsDateAt : Shelved → List ℕ → Option (List ℕ) → Type 0
IsDateAt s path date =
    (is_folder : Bool) × s.IsFolder path is_folder × IsDateBy s path is_folder date

-- of the list that a variable says, or else of the one inside
abbrev pub IsDateSaid : Shelved → InsideBytes → Option (List ℕ) → Option (List ℕ) → Type 0
IsDateSaid s inside (Some path) date = IsDateAt s path date
IsDateSaid s inside None date = date ≡ day_in inside.list

-- of the list that is used, which `IsNamedList` says
abbrev pub IsNamedDate : Shelved → InsideBytes → Option (List ℕ) → Option (List ℕ) → Type 0
IsNamedDate s inside (Some path) date = IsDateAt s path date
IsNamedDate s inside None date =
    (said : Option (List ℕ)) × s.Says (codes "SPDX_LIST") said × IsDateSaid s inside said date
