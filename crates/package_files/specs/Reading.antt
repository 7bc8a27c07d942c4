-- The packages that the bytes of a file list.
use Rattle.std.specs.Prelude.{ℕ, List, [], Option, None, Some, Result, Ok}
use Rattle.std.specs.Option.{option_map_or}
use Rattle.std.specs.Path.{rsplit_once}
use Rattle.package_items.specs.Members.{on_ok}
use Rattle.package_items.specs.Rows.{Fault, PackageRow}
use Rattle.package_sources.specs.declared.form.Form.{Form}
use Rattle.package_sources.specs.Guess.{guessed_form}
use Rattle.package_sources.specs.Sources.{packages, packages_at}
use Rattle.package_files.specs.declared.listed.Source.{Source}
use Rattle.package_files.specs.declared.listed.Source.TheVariants as source

-- the folder that a file is in: what stands before the last `/` of its path
abbrev pub folder_of : List ℕ → List ℕ
folder_of path = option_map_or (λ (p : List ℕ × List ℕ). p.0) (rsplit_once 47 path) []

-- the packages of a file of this form at that path
abbrev pub read_as : Form → List ℕ → List ℕ → Result (Option Form × List PackageRow) Fault
read_as form path bytes =
    on_ok (packages form (folder_of path) bytes) (λ rows. Ok (None, rows))

-- the same of the form that its shape tells, and that form
abbrev pub read_by_shape : List ℕ → List ℕ → Result (Option Form × List PackageRow) Fault
read_by_shape path bytes =
    on_ok (guessed_form bytes) (λ form.
    on_ok (packages form (folder_of path) bytes) (λ rows. Ok (Some form, rows)))

-- the packages of a file, as its source says that it is read; and the form, if the shape told it
abbrev pub read : Source → List ℕ → List ℕ → Result (Option Form × List PackageRow) Fault
read source.Auto path bytes = read_by_shape path bytes
read (source.Named form) path bytes = read_as form path bytes
read (source.At pointers) path bytes =
    on_ok (packages_at pointers bytes) (λ rows. Ok (None, rows))
