-- The files that a package declares to be texts of its licence.
use Rattle.std.specs.Prelude.{◌≡◌, ◌⊎◌, ℕ, Bool, true, false, List, [], ◌∷◌, ◌++◌, Option, None, Some, codes, flat_map}
use Rattle.std.specs.List.{AllZip}
use Rattle.std.specs.Option.{option_to_list}
use Rattle.std.specs.declared.io.Error.{Error}
use Rattle.shelves.specs.Shelf.{Shelved, to_look}
use Rattle.shelves.specs.declared.shelf.Kind.{Kind}
use Rattle.package_files.specs.declared.listed.Source.{Source}
use Rattle.package_files.specs.declared.listed.Source.TheVariants as source
use Rattle.package_sources.specs.declared.form.Form.{Form}
use Rattle.package_sources.specs.declared.form.Form.TheVariants as form
use Rattle.owed_texts.specs.declared.license_files.Place.{Place}
use Rattle.owed_texts.specs.declared.license_files.Place.TheVariants as place
use Rattle.owed_texts.specs.declared.home.OwnTexts.{OwnTexts}
use Rattle.owed_texts.specs.declared.home.OwnTexts.TheVariants as own
use Rattle.owed_texts.specs.Home.{place_in}

-- the form that a file was read in
abbrev pub form_read : Source → Option Form → Option Form
form_read (source.Named f) guessed = Some f
form_read source.Auto guessed = guessed
form_read (source.At pointers) guessed = guessed

abbrev pub place_pip : OwnTexts → Place
place_pip own.Installed = place.Said
place_pip own.Left = place.Looked
place_pip (own.Below all) = place.Looked

-- Python's metadata say no folder; what `pip-licenses` says is of where the package is installed
abbrev pub place_of : Option Form → OwnTexts → Place
place_of (Some form.Metadata) o = place.Python
place_of (Some form.Pip) o = place_pip o
place_of f o = place.Said

-- something is there, or can't be looked at
abbrev pub IsThere : Shelved → List ℕ → Bool → Type 0
IsThere s path true = (k : Kind) × s.IsOf path k
IsThere s path false = (e : Error) × s.Fails to_look path e

abbrev pub IsThereAt : Shelved → Option (List ℕ) → Bool → Type 0
IsThereAt s None is = is ≡ false
IsThereAt s (Some path) is = IsThere s path is

-- the same below the folder
abbrev pub IsThereIn : Shelved → List ℕ → List ℕ → Bool → Type 0
IsThereIn s folder path is = IsThereAt s (place_in folder path) is

-- the first of the paths that is there
abbrev pub IsFirstThere : Shelved → List ℕ → List (List ℕ) → List ℕ → Type 0
IsFirstThere s folder [] found = ⊥
IsFirstThere s folder (path ∷ []) found = found ≡ path
IsFirstThere s folder (path ∷ other ∷ paths) found =
    (IsThereIn s folder path true × (found ≡ path))
    ⊎ (IsThereIn s folder path false × IsFirstThere s folder (other ∷ paths) found)

abbrev pub python_places : List ℕ → List (List ℕ)
python_places path =
    (codes "licenses/" ++ path) ∷ (codes "license_files/" ++ path) ∷ path ∷ []

-- in the folders of Python's tools, or else where it is said
abbrev pub IsPython : Shelved → List ℕ → List ℕ → Option (List ℕ) → Type 0
IsPython s folder path None = ⊥
IsPython s folder path (Some found) = IsFirstThere s folder (python_places path) found

abbrev pub IsLooked : Shelved → List ℕ → List ℕ → Option (List ℕ) → Type 0
IsLooked s folder path None = IsThereIn s folder path false
IsLooked s folder path (Some found) = IsThereIn s folder path true × (found ≡ path)

abbrev pub IsDeclaredAs : Shelved → Place → List ℕ → List ℕ → Option (List ℕ) → Type 0
IsDeclaredAs s place.Python folder path found = IsPython s folder path found
IsDeclaredAs s place.Looked folder path found = IsLooked s folder path found
IsDeclaredAs s place.Said folder path found = found ≡ Some path

-- those that are found, in their order
pub record AreDeclared (s : Shelved) (how : Place) (folder : List ℕ)
    (paths found : List (List ℕ)) : Type 0 where
  pub each : List (Option (List ℕ))
  pub are : AllZip (IsDeclaredAs s how folder) paths each
  pub kept : found ≡ flat_map option_to_list each
