-- The imprecise names that licences' full names are.
use Rattle.std.specs.Prelude.{◌≡◌, ℕ, Bool, true, not, ◌||◌, ◌&&◌, ◌==◌, List, ◌++◌, Option, Some, option_map, length, take_while, map, filter, find, bytes_eq, Contains}
use Rattle.std.specs.List.{list_any}
use Rattle.std.specs.Str.{str_eq_ignore_ascii_case}
use Rattle.spdx_requirement.specs.Rows.{LicenseRow, ExceptionRow, ImpreciseRow}
use Rattle.spdx_requirement.specs.Flags.{is_deprecated}
use Rattle.spdx_catalogue.specs.Names.{is_name_byte, begins_caseless}

-- what a word of an expression may have: ASCII letters, digits, `-`, `.` and `:`
abbrev pub is_word_byte : ℕ → Bool
is_word_byte b = is_name_byte b || b == 58

-- the word that the text begins with
abbrev pub first_word : List ℕ → List ℕ
first_word text = take_while is_word_byte text

-- a licence or an exception has this name, the case of ASCII letters aside
abbrev pub is_listed_word : List LicenseRow → List ExceptionRow → List ℕ → Bool
is_listed_word licenses exceptions word =
    list_any (λ (r : LicenseRow). str_eq_ignore_ascii_case r.name word) licenses
    || list_any (λ (r : ExceptionRow). str_eq_ignore_ascii_case r.name word) exceptions

-- the text begins with a word, which is no listed name: else lax reading takes that name, and asks
-- no imprecise one
abbrev pub begins_unlisted : List LicenseRow → List ExceptionRow → List ℕ → Bool
begins_unlisted licenses exceptions text =
    not (length (first_word text) == 0) &&
    not (is_listed_word licenses exceptions (first_word text))

-- the full name of this licence begins that of another one, which is not deprecated
abbrev pub fits_other : LicenseRow → LicenseRow → Bool
fits_other r o =
    not (is_deprecated o.flags) &&
    (not (bytes_eq o.name r.name) && begins_caseless r.full_name o.full_name)

-- the text begins the prefix of one of these imprecise names
abbrev pub fits_row : List ImpreciseRow → List ℕ → Bool
fits_row rows text = list_any (λ (m : ImpreciseRow). begins_caseless text m.prefix) rows

-- the licence is not deprecated, and its full name can be read, fits no other licence and hides
-- none of these imprecise names
abbrev pub is_taken : List LicenseRow → List ExceptionRow → List ImpreciseRow → LicenseRow → Bool
is_taken licenses exceptions rows r =
    not (is_deprecated r.flags) && (begins_unlisted licenses exceptions r.full_name
    && (not (list_any (fits_other r) licenses) && not (fits_row rows r.full_name)))

-- the full name as an imprecise name
abbrev pub full_row : LicenseRow → ImpreciseRow
full_row r = record { prefix = r.full_name; name = r.name }

-- the full names that are taken, in the order of the licences
abbrev pub full_names : List LicenseRow → List ExceptionRow → List ImpreciseRow → List ImpreciseRow
full_names licenses exceptions rows =
    map full_row (filter (is_taken licenses exceptions rows) licenses)

-- and the imprecise names behind them
abbrev pub with_full_names : List LicenseRow → List ExceptionRow → List ImpreciseRow →
    List ImpreciseRow
with_full_names licenses exceptions rows = full_names licenses exceptions rows ++ rows

-- the first imprecise name that begins the text
abbrev pub first_fit : List ImpreciseRow → List ℕ → Option ImpreciseRow
first_fit rows text = find (λ (m : ImpreciseRow). begins_caseless m.prefix text) rows

-- each full name that is taken means its licence, and each of the imprecise names what it meant
pub record ReadsFullNames (licenses : List LicenseRow) (exceptions : List ExceptionRow)
    (rows all : List ImpreciseRow) : Type 0 where
  pub full : (r : LicenseRow) → Contains licenses r → is_taken licenses exceptions rows r ≡ true
      → option_map (λ (m : ImpreciseRow). m.name) (first_fit all r.full_name) ≡ Some r.name
  pub kept : (m : ImpreciseRow) → Contains rows m → first_fit all m.prefix ≡ first_fit rows m.prefix
