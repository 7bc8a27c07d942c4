-- As what a file is read, or a folder.
use Rattle.std.specs.Prelude.{◌≡◌, ℕ, Bool, true, false, List, Option, Some, None, option_map, string_bytes, ◌&&◌, if◌then◌else◌}
use Rattle.shelves.specs.AtPath.{is_input}
use Rattle.shelves.specs.Shelf.{Shelved, to_look}
use Rattle.manifests.specs.declared.form.Form.{Form}
use Rattle.manifests.specs.Names.{form_of, form_named}
use Rattle.source_trees.specs.declared.reading.Reading.{Reading}
use Rattle.source_trees.specs.declared.reading.Reading.TheVariants as reading
use Rattle.source_trees.specs.declared.reading.ReadingFault.{ReadingFault}
use Rattle.source_trees.specs.declared.reading.ReadingFault.TheVariants as fault
use Rattle.source_trees.specs.declared.reading.Taken.{Taken}
use Rattle.source_trees.specs.declared.reading.Wanted.{Wanted}
use Rattle.source_trees.specs.declared.reading.Wanted.TheVariants as wanted

abbrev pub is_all : Taken → Bool
is_all t = t.tags && t.manifests

abbrev pub taken : Bool → Bool → Taken
taken tags manifests = record { tags = tags; manifests = manifests }

-- what is taken of the files below a folder; where the form of one file is named, nothing is
abbrev pub tree_of : Wanted → Option Taken
tree_of wanted.ByName = Some (taken true true)
tree_of wanted.Headers = Some (taken true false)
tree_of wanted.Manifests = Some (taken false true)
tree_of (wanted.Form word) = None

-- as what it is read that isn't a manifest
abbrev pub or_lines : Option Form → Reading
or_lines None = reading.Lines
or_lines (Some form) = reading.Manifest form

-- as what a file is read, by what is wanted and by its name
abbrev pub file_reading : Wanted → List ℕ → Option Reading
file_reading wanted.ByName path = Some (or_lines (form_of path))
file_reading wanted.Headers path = Some reading.Tags
file_reading wanted.Manifests path = option_map reading.Manifest (form_of path)
file_reading (wanted.Form word) path = option_map reading.Manifest (form_named word.now)

-- whether the path is a folder; standard input is none
abbrev pub IsTreeBy : Bool → Shelved → List ℕ → Bool → Type 0
IsTreeBy true s path is = is ≡ false
IsTreeBy false s path is = s.IsFolder path is

abbrev pub IsTree : Shelved → List ℕ → Bool → Type 0
IsTree s path is = IsTreeBy (is_input path) s path is

-- a folder is read as a tree, and a file as its reading
abbrev pub IsReadingBy : Option Taken → Option Reading → Bool → Reading → Type 0
IsReadingBy tree file true r = option_map reading.Tree tree ≡ Some r
IsReadingBy tree file false r = file ≡ Some r

abbrev pub IsReading : Shelved → Wanted → List ℕ → Reading → Type 0
IsReading s wanted path r =
    (is : Bool) × IsTree s path is × IsReadingBy (tree_of wanted) (file_reading wanted path) is r

-- it can't be looked at
abbrev pub IsUnlooked : Shelved → List ℕ → ReadingFault → Type 0
IsUnlooked s path (fault.Unreadable n e) =
    (string_bytes n ≡ path) × (is_input path ≡ false) × s.Fails to_look path e
IsUnlooked s path (fault.NoManifest n) = ⊥
IsUnlooked s path (fault.Folder n) = ⊥
IsUnlooked s path fault.Memory = Unit {0}

-- why it isn't read; nothing is said of memory
abbrev pub IsNoReading : Shelved → Wanted → List ℕ → ReadingFault → Type 0
IsNoReading s wanted path (fault.Unreadable n e) = IsUnlooked s path (fault.Unreadable n e)
IsNoReading s wanted path (fault.NoManifest n) = (string_bytes n ≡ path) × IsTree s path false ×
    (file_reading wanted path ≡ None)
IsNoReading s wanted path (fault.Folder n) = (string_bytes n ≡ path) × IsTree s path true ×
    (tree_of wanted ≡ None)
IsNoReading s wanted path fault.Memory = Unit {0}

-- the form of a file below a folder, where its manifests are taken
abbrev pub form_below : Taken → List ℕ → Option Form
form_below t path = if t.manifests then form_of path else None
