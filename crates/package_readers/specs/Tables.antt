-- Packages in records: values with commas or tabs between them.
use Rattle.std.specs.Prelude.{ℕ, suc, Bool, true, false, List, [], ◌∷◌, length, Option, Some, None, Result, Ok, Err, if◌then◌else◌, codes}
use Rattle.std.specs.List.{list_all, position_from, slice_get}
use Rattle.std.specs.Str.{is_utf8, str_eq_ignore_ascii_case}
use Rattle.package_readers.specs.declared.separated.Separator.{Separator}
use Rattle.package_readers.specs.declared.table.Columns.{Columns}
use Rattle.package_items.specs.Rows.{Fault, open_quote, no_name_column, no_license_column, record_not_utf8, not_columns, too_few_columns, no_name, LicenseRow, PackageRow, in_record}
use Rattle.package_items.specs.Texts.{is_blank, license_in}
use Rattle.package_items.specs.Members.{on_ok}
use Rattle.package_readers.specs.Lines.{trimmed}
use Rattle.package_readers.specs.Separated.{is_open, records_of}

-- ---- a record

-- what is there, or the fault that it isn't
abbrev pub or_fault : {A : Type 0} → Fault → Option A → Result A Fault
or_fault f None = Err f
or_fault f (Some x) = Ok x

abbrev pub text_in : ℕ → List ℕ → Result (List ℕ) Fault
text_in number value = if is_utf8 value then Ok value else Err (record_not_utf8 number)

-- the text in a column
abbrev pub text_at : ℕ → List (List ℕ) → ℕ → Result (List ℕ) Fault
text_at number values column =
    on_ok (or_fault (too_few_columns number) (slice_get values column)) (text_in number)

-- a text without the white space at its ends, if it isn't blank
abbrev pub told : List ℕ → Option (List ℕ)
told text = if is_blank text then None else Some (trimmed text)

abbrev pub told_at : ℕ → List (List ℕ) → Option ℕ → Result (Option (List ℕ)) Fault
told_at number values None = Ok None
told_at number values (Some column) = on_ok (text_at number values column) (λ text. Ok (told text))

-- the package of a record, with this name, version and license
abbrev pub in_record_of : ℕ → List ℕ → Option (List ℕ) → LicenseRow → PackageRow
in_record_of number name version license =
    record {
      name = name;
      version = version;
      license = license;
      folder = None;
      license_files = [];
      evidence = 0;
      is_own = false;
      spot = in_record number;
    }

-- the package of what stands in the columns
abbrev pub package_at : ℕ → List (List ℕ) → Columns → Result PackageRow Fault
package_at number values c =
    on_ok (text_at number values c.name)
    (λ name. on_ok (told_at number values c.version) (λ version.
    on_ok (text_at number values c.license)
    (λ text. on_ok (or_fault (no_name number) (told name)) (λ known.
    Ok (in_record_of number known version (license_in (trimmed text)))))))

-- a name and a license, or a version between them
abbrev pub columns_for : ℕ → List (List ℕ) → Result Columns Fault
columns_for number (name ∷ text ∷ []) = Ok (record { name = 0; version = None; license = 1 })
columns_for number (name ∷ version ∷ text ∷ []) =
    Ok (record { name = 0; version = Some 1; license = 2 })
columns_for number values = Err (not_columns number (length values))

-- the columns of a record: those that the header names, if there is one
abbrev pub columns_in : Option Columns → ℕ → List (List ℕ) → Result Columns Fault
columns_in None number values = columns_for number values
columns_in (Some c) number values = Ok c

abbrev pub package_of : Option Columns → ℕ → List (List ℕ) → Result PackageRow Fault
package_of named number values = on_ok (columns_in named number values) (package_at number values)

-- ---- the header

-- whether a value is the word, in any case and without the white space at its ends
abbrev pub is_word : List ℕ → List ℕ → Bool
is_word word value = str_eq_ignore_ascii_case (trimmed value) word

abbrev pub first_or : Option ℕ → Option ℕ → Option ℕ
first_or None other = other
first_or (Some column) other = Some column

-- the first column that is named by one of the words, an earlier word first
abbrev pub first_column : List (List ℕ) → List (List ℕ) → Option ℕ
first_column [] names = None
first_column (word ∷ more) names =
    first_or (position_from (is_word word) 0 names) (first_column more names)

abbrev pub name_words : List (List ℕ)
name_words = codes "name" ∷ codes "module name" ∷ codes "package" ∷ codes "component" ∷ []

abbrev pub version_words : List (List ℕ)
version_words = codes "version" ∷ []

abbrev pub license_words : List (List ℕ)
license_words =
    codes "license" ∷ codes "licence" ∷ codes "licenses" ∷ codes "license expression" ∷
    codes "license-expression" ∷ codes "spdx" ∷ []

-- the columns that a header names
abbrev pub columns_named : List (List ℕ) → Result Columns Fault
columns_named names =
    on_ok (or_fault no_name_column (first_column name_words names)) (λ name.
    on_ok (or_fault no_license_column (first_column license_words names)) (λ license.
    Ok (record { name = name; version = first_column version_words names; license = license })))

-- ---- all records

-- the number of the first record that may be a package: it stands behind the header, if there is
-- one
abbrev pub first_number : Option Columns → ℕ
first_number None = 1
first_number (Some c) = 2

-- what each record gives that isn't blank, in their order; they are counted from the given number
-- on
abbrev pub each_record : (ℕ → List (List ℕ) → Result PackageRow Fault) → ℕ → List (List (List ℕ)) →
    Result (List PackageRow) Fault
each_record read number [] = Ok []
each_record read number (values ∷ more) =
    if list_all is_blank values then each_record read (suc number) more
    else on_ok (read number values)
    (λ p. on_ok (each_record read (suc number) more) (λ ps. Ok (p ∷ ps)))

abbrev pub packages_of : Option Columns → List (List (List ℕ)) → Result (List PackageRow) Fault
packages_of named records = each_record (package_of named) (first_number named) records

-- the packages behind a header
abbrev pub packages_behind : List (List (List ℕ)) → Result (List PackageRow) Fault
packages_behind [] = Err no_name_column
packages_behind (names ∷ records) = on_ok (columns_named names) (λ c. packages_of (Some c) records)

abbrev pub packages_with : Bool → List (List (List ℕ)) → Result (List PackageRow) Fault
packages_with false records = packages_of None records
packages_with true records = packages_behind records

-- the packages of the records that aren't blank; with a header, the first record names the columns
abbrev pub packages_in_table : Separator → Bool → List ℕ → Result (List PackageRow) Fault
packages_in_table s header bytes =
    if is_open s bytes then Err open_quote else packages_with header (records_of s bytes)
