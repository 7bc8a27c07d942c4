-- The packages of a file.
use Rattle.std.specs.Prelude.{◌≡◌, ◌≢◌, ℕ, Bool, true, false, not, length, List, [], Option, None, Result, Ok, filter, map, string_bytes, if◌then◌else◌}
use Rattle.std.specs.List.{list_all}
use Rattle.std.specs.Char.{is_ascii_whitespace}
use Rattle.package_items.specs.Rows.{Fault, PackageRow, row_of}
use Rattle.package_sources.specs.declared.form.Form.{Form}
use Rattle.package_sources.specs.declared.form.Form.TheVariants as form
use Rattle.package_sources.specs.Guess.{guessed_form}
use Rattle.shelves.specs.AtPath.{IsContent, told_path}
use Rattle.shelves.specs.Shelf.{Shelved}
use Rattle.package_files.specs.declared.listed.Listed.{Listed}
use Rattle.package_files.specs.declared.listed.Source.{Source}
use Rattle.package_files.specs.declared.listed.Source.TheVariants as source
use Rattle.package_files.specs.declared.listed.Wanted.{Wanted}
use Rattle.package_files.specs.Reading.{read}

-- those that aren't of one's own project
abbrev pub others : List PackageRow → List PackageRow
others rows = filter (λ (r : PackageRow). not r.is_own) rows

abbrev pub wanted_of : Wanted → List PackageRow → List PackageRow
wanted_of w rows = if w.exclude_own then others rows else rows

-- some package is listed, where a file has to list one
abbrev pub Passes : {A : Type 0} → Wanted → List A → Type 0
Passes w xs = w.allow_empty ≡ false → length xs ≢ 0

-- the packages that are wanted of the file at the path, under its path as it is told
pub record IsListedAt (s : Shelved) (w : Wanted) (path : List ℕ) (listed : Listed) : Type 0 where
  pub bytes : List ℕ
  pub rows : List PackageRow
  pub content : IsContent s path bytes
  pub reads : read w.source (told_path path) bytes ≡ Ok (listed.guessed, rows)
  pub path_is : string_bytes listed.path ≡ told_path path
  pub packages_are : map row_of listed.packages.items ≡ wanted_of w rows
  pub lists_some : Passes w rows

-- all packages of these bytes
pub record IsReadFrom (how : Source) (path bytes : List ℕ) (listed : Listed) : Type 0 where
  pub reads : read how path bytes ≡ Ok (listed.guessed, map row_of listed.packages.items)
  pub path_is : string_bytes listed.path ≡ path

-- ---- a baseline

-- what an earlier run wrote is known by its shape
abbrev pub source_for : Result Form Fault → Source → Source
source_for (Ok form.Verdicts) how = source.Auto
source_for found how = how

abbrev pub source_before : Source → List ℕ → Source
source_before how bytes = source_for (guessed_form bytes) how

-- an empty file, or one of blanks, lists none
abbrev pub read_before : Source → List ℕ → List ℕ → Result (Option Form × List PackageRow) Fault
read_before how path bytes =
    if list_all is_ascii_whitespace bytes then Ok (None, [])
    else read (source_before how bytes) path bytes

pub record IsEarlier (how : Source) (path bytes : List ℕ) (listed : Listed) : Type 0 where
  pub reads : read_before how path bytes ≡ Ok (listed.guessed, map row_of listed.packages.items)
  pub path_is : string_bytes listed.path ≡ path

-- the packages of the baseline at the path
abbrev pub IsListedBefore : Shelved → Source → List ℕ → Listed → Type 0
IsListedBefore s how path listed =
    (bytes : List ℕ) × s.Holds path bytes × IsEarlier how path bytes listed
