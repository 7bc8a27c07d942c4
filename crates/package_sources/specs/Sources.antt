-- The packages of a whole file, in each form.
use Rattle.std.specs.Prelude.{ℕ, false, nat_eq, if◌then◌else◌, List, [], ◌∷◌, ◌++◌, drop, Option, Some, None, option_map, Result, Ok, Err, codes}
use Rattle.std.specs.Borrow.{Bor}
use Rattle.std.specs.List.{starts_with}
use Rattle.serde_json.specs.Data.{Data}
use Rattle.serde_json.specs.Find.{get, pointer}
use Rattle.package_sources.specs.declared.form.Form.{Form}
use Rattle.package_sources.specs.declared.form.Form.TheVariants as form
use Rattle.package_sources.specs.declared.form.Pointers.{Pointers}
use Rattle.package_readers.specs.declared.separated.Separator.TheVariants as separator
use Rattle.package_sources.specs.declared.reading.Reading.TheVariants as reading
use Rattle.package_items.specs.Rows.{Fault, not_json, ItemRow, PackageRow}
use Rattle.package_items.specs.Values.{value_in}
use Rattle.package_items.specs.Members.{on_ok}
use Rattle.package_items.specs.Items.{list_items, list_items_if_any, object_at, root_item}
use Rattle.package_readers.specs.LicenseChecker.{checked_packages}
use Rattle.package_readers.specs.Metadata.{metadata_packages}
use Rattle.package_readers.specs.Pnpm.{pnpm_packages}
use Rattle.package_readers.specs.SpdxThree.{graph_packages}
use Rattle.package_readers.specs.Verdicts.{verdict_packages}
use Rattle.package_sources.specs.Cargo.{cargo_packages}
use Rattle.package_sources.specs.Readings.{packages_of}
use Rattle.package_sources.specs.Npm.{npm_items, lies_in}
use Rattle.package_sources.specs.CycloneDx as bom
use Rattle.package_sources.specs.Described.{root}
use Rattle.package_sources.specs.Spdx as bill
use Rattle.package_sources.specs.Pointer.{checked}
use Rattle.package_readers.specs.Lines.{packages_in_lines}
use Rattle.package_readers.specs.Tables.{packages_in_table}

-- the bytes behind the mark that some editors put first
abbrev pub without_mark : List ℕ → List ℕ
without_mark bytes = if starts_with nat_eq bytes (239 ∷ 187 ∷ 191 ∷ []) then drop 3 bytes else bytes

abbrev pub value_or_fault : Option Data → Result Data Fault
value_or_fault None = Err not_json
value_or_fault (Some d) = Ok d

-- the one value of the file
unfoldable pub document : List ℕ → Result Data Fault
document bytes = value_or_fault (value_in bytes)

-- the same, if it is an object
abbrev pub object_document : List ℕ → Result Data Fault
object_document bytes = on_ok (document bytes) (λ d. object_at (codes "") (Some d))

-- the packages of the list; those that are members of the workspace are one's own
abbrev pub cargo : Data → Result (List PackageRow) Fault
cargo d =
    on_ok (list_items (codes "/packages") (get (codes "packages") d)) (λ is.
    on_ok (list_items_if_any (codes "/workspace_members") (get (codes "workspace_members") d))
    (λ members.
    cargo_packages members is))

abbrev pub npm : List ℕ → Data → Result (List PackageRow) Fault
npm folder d = on_ok (npm_items folder d) (packages_of (reading.Npm (lies_in d)))

abbrev pub composer_lists : Data → Option Data → Result (List ItemRow) Fault
composer_lists d found =
    on_ok (list_items (codes "/packages") found) (λ is.
    on_ok (list_items_if_any (codes "/packages-dev") (get (codes "packages-dev") d))
    (λ more. Ok (is ++ more)))

abbrev pub composer_found : List ℕ → Data → Option Data → Result (List ItemRow) Fault
composer_found folder d None = Ok (root_item folder false d ∷ [])
composer_found folder d (Some found) = composer_lists d (Some found)

-- those of both lists of a lock file, or a composer.json, which is one
abbrev pub composer_items : List ℕ → Data → Result (List ItemRow) Fault
composer_items folder d = composer_found folder d (get (codes "packages") d)

abbrev pub composer : List ℕ → Data → Result (List PackageRow) Fault
composer folder d = on_ok (composer_items folder d) (packages_of reading.Composer)

abbrev pub pip : Data → Result (List PackageRow) Fault
pip d = on_ok (list_items (codes "") (Some d)) (packages_of reading.Pip)

abbrev pub cyclonedx : Data → Result (List PackageRow) Fault
cyclonedx d = on_ok (bom.items d) (packages_of reading.CycloneDx)

-- the packages of the list; the one that the document is about is one's own
abbrev pub spdx : Data → Result (List PackageRow) Fault
spdx d = on_ok (bill.items d) (bill.spdx_packages (root d))

-- what a form makes of the bytes behind the mark
abbrev pub packages_in : Form → List ℕ → List ℕ → Result (List PackageRow) Fault
packages_in form.Lines folder bytes = packages_in_lines bytes
packages_in (form.Tsv header) folder bytes = packages_in_table separator.Tab header bytes
packages_in (form.Csv header) folder bytes = packages_in_table separator.Comma header bytes
packages_in form.Cargo folder bytes = on_ok (object_document bytes) cargo
packages_in form.Npm folder bytes = on_ok (object_document bytes) (npm folder)
packages_in form.Composer folder bytes = on_ok (object_document bytes) (composer folder)
packages_in form.Pip folder bytes = on_ok (document bytes) pip
packages_in form.CycloneDx folder bytes = on_ok (object_document bytes) cyclonedx
packages_in form.Spdx folder bytes = on_ok (object_document bytes) spdx
packages_in form.LicenseChecker folder bytes = on_ok (document bytes) checked_packages
packages_in form.Pnpm folder bytes = on_ok (document bytes) pnpm_packages
packages_in form.Metadata folder bytes = metadata_packages bytes
packages_in form.SpdxThree folder bytes = on_ok (object_document bytes) graph_packages
packages_in form.Verdicts folder bytes = verdict_packages bytes

-- the packages that a file of the form lists, or its first fault
abbrev pub packages : Form → List ℕ → List ℕ → Result (List PackageRow) Fault
packages f folder bytes = packages_in f folder (without_mark bytes)

abbrev pub shown : Option (Bor (List ℕ)) → Option (List ℕ)
shown text = option_map (λ t. t.now) text

abbrev pub checked_if_any : Option (List ℕ) → Result (Option (List ℕ)) Fault
checked_if_any None = Ok None
checked_if_any (Some text) = on_ok (checked text) (λ t. Ok (Some t))

-- the packages of the items of the list at `each`, or the first fault; a pointer that is none comes
-- first
abbrev pub packages_at : Pointers → List ℕ → Result (List PackageRow) Fault
packages_at p bytes =
    on_ok (checked p.each.now)
    (λ each. on_ok (checked p.name.now)
    (λ name. on_ok (checked_if_any (shown p.version)) (λ version.
    on_ok (checked p.license.now) (λ license. on_ok (document (without_mark bytes)) (λ d.
    on_ok (list_items each (pointer each d)) (packages_of (reading.Pointed p)))))))
