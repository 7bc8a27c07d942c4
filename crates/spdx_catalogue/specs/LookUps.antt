-- What each look-up finds, as a walk over the rows.
use Rattle.std.specs.Prelude.{ℕ, Bool, List, ◌++◌, Option, option_map, option_and_then, find, length, take, bytes_eq, if◌then◌else◌}
use Rattle.std.specs.Str.{str_eq_ignore_ascii_case}
use Rattle.spdx_requirement.specs.Endings.{has_suffix, ending}
use Rattle.spdx_catalogue.specs.Names.{without_plus}
use Rattle.spdx_requirement.specs.Rows.{Rows, LicenseRow, ExceptionRow, ImpreciseRow}

-- the licence of that name, of which nothing is taken off
abbrev pub listed : List LicenseRow → List ℕ → Option LicenseRow
listed rows name = find (λ (r : LicenseRow). bytes_eq r.name name) rows

-- the exception of that name
abbrev pub listed_exception : List ExceptionRow → List ℕ → Option ExceptionRow
listed_exception rows name = find (λ (r : ExceptionRow). bytes_eq r.name name) rows

-- the first licence whose name it is, the case of ASCII letters aside
abbrev pub listed_caseless : List LicenseRow → List ℕ → Option LicenseRow
listed_caseless rows name = find (λ (r : LicenseRow). str_eq_ignore_ascii_case r.name name) rows

-- the first exception whose name it is, the case of ASCII letters aside
abbrev pub listed_exception_caseless : List ExceptionRow → List ℕ → Option ExceptionRow
listed_exception_caseless rows name =
    find (λ (r : ExceptionRow). str_eq_ignore_ascii_case r.name name) rows

-- The licence that the first prefix means with which the text begins, the case of ASCII letters
-- aside, and how many bytes of the text the prefix takes.
abbrev pub imprecise_license : Rows → List ℕ → Option (LicenseRow × ℕ)
imprecise_license c text =
    option_and_then (λ (m : ImpreciseRow).
    option_map (λ (r : LicenseRow). (r, length m.prefix)) (listed c.licenses m.name))
    (find (λ (m : ImpreciseRow). str_eq_ignore_ascii_case m.prefix (take (length m.prefix) text))
    c.imprecise)

-- the licence of a name that has its ending already, else of the name with the ending that is asked
-- for
abbrev pub gnu_listed : List LicenseRow → List ℕ → Bool → Option LicenseRow
gnu_listed rows base later =
    if has_suffix base then listed rows (without_plus base) else listed rows (base ++ ending later)
