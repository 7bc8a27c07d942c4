-- Which list lines are.
use Rattle.std.specs.Prelude.{ℕ, suc, List, [], ◌∷◌, Option, Some, None, option_and_then, option_map}
use Rattle.std.specs.Str.Lines.{lines}
use Rattle.spdx_requirement.specs.Rows.{Rows, LicenseRow, ExceptionRow, ImpreciseRow}
use Rattle.list_program.specs.Cells.{at_feed, at_tab, flags_in}

-- the flags, the name and the full name of a licence; its index is its place
abbrev pub license_line : ℕ → List ℕ → Option LicenseRow
license_line index line =
    option_and_then (λ front.
    option_and_then (λ names.
    option_map (λ flags.
    record { name = names.0; full_name = names.1; index = index; flags = flags })
    (flags_in front.0)) (at_tab front.1)) (at_tab line)

-- the flags and the name of an exception
abbrev pub exception_line : ℕ → List ℕ → Option ExceptionRow
exception_line index line =
    option_and_then (λ front.
    option_map (λ flags. record { name = front.1; index = index; flags = flags })
    (flags_in front.0)) (at_tab line)

-- a prefix and the name that it means
abbrev pub imprecise_line : ℕ → List ℕ → Option ImpreciseRow
imprecise_line index line =
    option_map (λ cells. record { prefix = cells.0; name = cells.1 }) (at_tab line)

-- the rows of lines, from the given index on, if each of them is one
abbrev pub rows_from :
    {A : Type 0} → (ℕ → List ℕ → Option A) → ℕ → List (List ℕ) → Option (List A)
rows_from row index [] = Some []
rows_from row index (line ∷ lines) =
    option_and_then (λ r. option_map (λ rs. r ∷ rs) (rows_from row (suc index) lines))
    (row index line)

abbrev pub rows_in : {A : Type 0} → (ℕ → List ℕ → Option A) → List ℕ → Option (List A)
rows_in one text = rows_from one 0 (lines text)

abbrev pub front_or : Option (List ℕ × List ℕ) → List ℕ → List ℕ
front_or (Some cells) line = cells.0
front_or None line = line

-- the version, which a tab and its day may follow
abbrev pub version_in : List ℕ → List ℕ
version_in line = front_or (at_tab line) line

-- the day of the version, if it stands there
abbrev pub day_in : List ℕ → Option (List ℕ)
day_in text =
    option_and_then (λ version. option_map (λ cells. cells.1) (at_tab version.0)) (at_feed text)

-- the version, the exceptions, the licences and the imprecise names, with a form feed between each
-- two
abbrev pub list_in : List ℕ → Option Rows
list_in text =
    option_and_then (λ version.
    option_and_then (λ exceptions.
    option_and_then (λ licenses.
    option_and_then (λ own_exceptions.
    option_and_then (λ own_licenses.
    option_map (λ own_imprecise.
    record {
      version = version_in version.0;
      licenses = own_licenses;
      exceptions = own_exceptions;
      imprecise = own_imprecise;
    })
    (rows_in imprecise_line licenses.1)) (rows_in license_line licenses.0))
    (rows_in exception_line exceptions.0)) (at_feed exceptions.1)) (at_feed version.1))
    (at_feed text)
