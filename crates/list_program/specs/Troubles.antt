-- Why no list is read.
use Rattle.std.specs.Prelude.{◌≡◌, ◌⊎◌, ℕ, List, [], Option, Some, None, Ok, Err, codes, string_bytes}
use Rattle.std.specs.Path.{path_join}
use Rattle.spdx_requirement.specs.Rows.{Rows}
use Rattle.spdx_catalogue.specs.declared.error.ReadFault.{ReadFault}
use Rattle.spdx_catalogue.specs.declared.error.ReadFault.TheVariants as read
use Rattle.spdx_catalogue.specs.Reading.{catalogue_in}
use Rattle.list_program.specs.Reading.{IsNoListOf}
use Rattle.list_program.specs.declared.read.LinesFault.{LinesFault}
use Rattle.list_program.specs.declared.read.LinesFault.TheVariants as fault
use Rattle.spdx_list.specs.declared.error.ListFault.{ListFault}
use Rattle.spdx_list.specs.Files.{ExtraRows, extras_in}
use Rattle.spdx_list.specs.Made.{Makes, IsRefused}
use Rattle.shelves.specs.Shelf.{Shelved, Access, to_look, to_read}
use Rattle.list_program.specs.declared.trouble.ListTrouble.{ListTrouble}
use Rattle.list_program.specs.declared.trouble.ListTrouble.TheVariants as trouble
use Rattle.list_program.specs.Named.{InsideBytes, no_extras, of_listed}

-- the file at the path holds bytes that are no list, by this fault
pub record IsNoListOfFile (s : Shelved) (path name : List ℕ) (f : ReadFault) : Type 0 where
  pub bytes : List ℕ
  pub named : name ≡ path
  pub holds : s.Holds path bytes
  pub fault : catalogue_in bytes ≡ Err f

-- the two files make no list: by themselves, or with what the extras say of what they list
abbrev pub IsRefusedWith : ExtraRows → List ℕ → List ℕ → ListFault → Type 0
IsRefusedWith extras licenses exceptions f =
    IsRefused licenses exceptions no_extras f
    ⊎ ((bare : Rows) × Makes licenses exceptions no_extras bare ×
    IsRefused licenses exceptions (of_listed bare extras) f)

-- the two files below the folder make no list, by this fault
pub record IsNoListOfFolder (s : Shelved) (extras folder name : List ℕ)
    (f : ListFault) : Type 0 where
  pub licenses : List ℕ
  pub exceptions : List ℕ
  pub rows : ExtraRows
  pub named : name ≡ folder
  pub says : extras_in extras ≡ Ok rows
  pub holds_licenses : s.Holds (path_join folder (codes "licenses.json")) licenses
  pub holds_exceptions : s.Holds (path_join folder (codes "exceptions.json")) exceptions
  pub refused : IsRefusedWith rows licenses exceptions f

-- what is wanted of the path, and of which part of it: what is there, and the bytes of the file, or
-- of one of the two files below it
pub data IsPartOf (path : List ℕ) : Access → List ℕ → Type 0 where
  the_path : IsPartOf path to_look path
  itself : IsPartOf path to_read path
  its_licenses : IsPartOf path to_read (path_join path (codes "licenses.json"))
  its_exceptions : IsPartOf path to_read (path_join path (codes "exceptions.json"))

-- this access to the path fails, as the shelf tells; nothing is said of memory
abbrev pub IsUnreadable : Shelved → Access → List ℕ → ListTrouble → Type 0
IsUnreadable s access path (trouble.Unreadable n e) =
    (string_bytes n ≡ path) × s.Fails access path e
IsUnreadable s access path trouble.Memory = Unit {0}
IsUnreadable s access path t = ⊥

-- these bytes hold no extras
abbrev pub AreNoExtras : List ℕ → ListTrouble → Type 0
AreNoExtras bytes (trouble.NoExtras f) = extras_in bytes ≡ Err f
AreNoExtras bytes trouble.Memory = Unit {0}
AreNoExtras bytes t = ⊥

-- why there is no list at the path; nothing is said of memory
abbrev pub IsNoListAt : Shelved → List ℕ → List ℕ → ListTrouble → Type 0
IsNoListAt s extras path (trouble.NoList n f) = IsNoListOfFile s path (string_bytes n) f
IsNoListAt s extras path (trouble.NotMade n f) = IsNoListOfFolder s extras path (string_bytes n) f
IsNoListAt s extras path (trouble.NoExtras f) = extras_in extras ≡ Err f
IsNoListAt s extras path (trouble.Unreadable n e) =
    (access : Access) × IsPartOf path access (string_bytes n) × s.Fails access (string_bytes n) e
IsNoListAt s extras path trouble.Memory = Unit {0}
IsNoListAt s extras path trouble.Nameless = ⊥
IsNoListAt s extras path trouble.Output = ⊥

-- lines of another form are told as what is no JSON
abbrev pub told_as : LinesFault → ReadFault
told_as fault.NotLines = read.NotJson
told_as (fault.Catalogue f) = read.Catalogue f

-- why lines are no list, as it is told
abbrev pub AreNoList : List ℕ → ReadFault → Type 0
AreNoList lines f = (why : LinesFault) × (f ≡ told_as why) × IsNoListOf lines why

-- why the list inside is none
abbrev pub IsNoListInside : InsideBytes → ListTrouble → Type 0
IsNoListInside inside (trouble.NoList n f) = AreNoList inside.list f
IsNoListInside inside trouble.Memory = Unit {0}
IsNoListInside inside t = ⊥

-- why there is none at the path that a variable says, which has to say one
abbrev pub IsNoListNamed : Shelved → List ℕ → List ℕ → ListTrouble → Type 0
IsNoListNamed s extras path trouble.Nameless = path ≡ []
IsNoListNamed s extras path t = IsNoListAt s extras path t

abbrev pub IsNoListSaid : Shelved → InsideBytes → Option (List ℕ) → ListTrouble → Type 0
IsNoListSaid s inside (Some path) t = IsNoListNamed s inside.extras path t
IsNoListSaid s inside None t = IsNoListInside inside t

-- why SPDX_LIST says no list: it is no UTF-8, or by what it says
abbrev pub IsNoListByVariable : Shelved → InsideBytes → ListTrouble → Type 0
IsNoListByVariable s inside trouble.Memory = Unit {0}
IsNoListByVariable s inside t =
    (s.IsNoText (codes "SPDX_LIST") × (t ≡ trouble.Nameless))
    ⊎ ((said : Option (List ℕ)) × s.Says (codes "SPDX_LIST") said × IsNoListSaid s inside said t)

-- why no list is used
abbrev pub IsNoNamedList : Shelved → InsideBytes → Option (List ℕ) → ListTrouble → Type 0
IsNoNamedList s inside (Some path) t = IsNoListAt s inside.extras path t
IsNoNamedList s inside None t = IsNoListByVariable s inside t
