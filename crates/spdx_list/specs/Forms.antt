-- The forms in which a full name is written, and the imprecise names that these are.
use Rattle.std.specs.Prelude.{◌≡◌, ℕ, Bool, not, ◌||◌, ◌&&◌, ◌==◌, List, [], ◌∷◌, ◌++◌, Option, None, Some, option_map, length, map, filter, flat_map, bytes_eq, codes, if◌then◌else◌, Contains}
use Rattle.std.specs.List.{list_all, list_any}
use Rattle.std.specs.Char.{is_ascii_digit}
use Rattle.std.specs.Str.{str_eq_ignore_ascii_case}
use Rattle.std.specs.Path.{rsplit_once}
use Rattle.spdx_requirement.specs.Rows.{LicenseRow, ExceptionRow, ImpreciseRow}
use Rattle.spdx_requirement.specs.Flags.{is_deprecated}
use Rattle.spdx_catalogue.specs.Names.{begins_caseless}
use Rattle.spdx_list.specs.FullNames.{begins_unlisted, fits_row, first_fit, full_names, with_full_names}

-- ---- the words of a text

-- what stands before the last blank, and behind it, if there is one
abbrev pub last_parts : List ℕ → Option (List ℕ × List ℕ)
last_parts text = rsplit_once 32 text

abbrev pub behind_or : List ℕ → Option (List ℕ × List ℕ) → List ℕ
behind_or text None = text
behind_or text (Some parts) = parts.1

abbrev pub before_in : Option (List ℕ × List ℕ) → List ℕ
before_in None = []
before_in (Some parts) = parts.0

-- the last word, and what stands before the blank in front of it
abbrev pub last_word : List ℕ → List ℕ
last_word text = behind_or text (last_parts text)

abbrev pub before_last : List ℕ → List ℕ
before_last text = before_in (last_parts text)

-- the last word is this one, the case of ASCII letters aside
abbrev pub ends_in_word : List ℕ → List ℕ → Bool
ends_in_word word text = str_eq_ignore_ascii_case (last_word text) word

-- ---- a full name, its version and its word `License`

-- without a `v` in front
abbrev pub less_v : List ℕ → List ℕ
less_v [] = []
less_v (b ∷ bs) = if b == 118 then bs else b ∷ bs

abbrev pub is_version_byte : ℕ → Bool
is_version_byte b = is_ascii_digit b || b == 46

abbrev pub has_dot : List ℕ → Bool
has_dot word = list_any (λ b. b == 46) word

-- digits and dots, of which there is one at least
abbrev pub is_version : List ℕ → Bool
is_version word = has_dot word && list_all is_version_byte word

-- the version that a text ends in, as `2.0` of `v2.0`; empty where it ends in none
abbrev pub version_of : List ℕ → List ℕ
version_of text = let number = less_v (last_word text) in if is_version number then number else []

-- without the word `version` at the end
abbrev pub less_version : List ℕ → List ℕ
less_version text = if ends_in_word (codes "version") text then before_last text else text

-- what stands before the version
abbrev pub name_of : List ℕ → List ℕ
name_of text = if length (version_of text) == 0 then text else less_version (before_last text)

-- a name with the version as `2.0` and as `v2.0`; the name where there is no version
abbrev pub with_version : List ℕ → List ℕ → List (List ℕ)
with_version name version =
    if length version == 0 then name ∷ []
    else (name ++ (codes " " ++ version)) ∷ (name ++ (codes " v" ++ version)) ∷ []

abbrev pub ends_in_license : List ℕ → Bool
ends_in_license name = ends_in_word (codes "license") name || ends_in_word (codes "licence") name

-- the same without that word at the end of the name, where it stands there
abbrev pub without_license : List ℕ → List ℕ → List (List ℕ)
without_license name version =
    if ends_in_license name then with_version (before_last name) version else []

-- the forms of a full name: its version as `2.0` and as `v2.0`, with `License` before it and
-- without, or at the end
abbrev pub forms_of : List ℕ → List (List ℕ)
forms_of full_name =
    with_version (name_of full_name) (version_of full_name) ++
    without_license (name_of full_name) (version_of full_name)

-- ---- imprecise names

abbrev pub form_row : LicenseRow → List ℕ → ImpreciseRow
form_row r form = record { prefix = form; name = r.name }

-- the forms of a licence's full name; none of a deprecated one
abbrev pub forms_for : LicenseRow → List ImpreciseRow
forms_for r = if is_deprecated r.flags then [] else map (form_row r) (forms_of r.full_name)

abbrev pub all_forms : List LicenseRow → List ImpreciseRow
all_forms licenses = flat_map forms_for licenses

-- the form begins the full name of a licence of another name, which is not deprecated
abbrev pub fits_full : ImpreciseRow → LicenseRow → Bool
fits_full f o =
    not (is_deprecated o.flags) &&
    (not (bytes_eq o.name f.name) && begins_caseless f.prefix o.full_name)

-- it begins a form of a licence of another name
abbrev pub fits_form : ImpreciseRow → ImpreciseRow → Bool
fits_form f o = not (bytes_eq o.name f.name) && begins_caseless f.prefix o.prefix

-- one of these imprecise names begins the text
abbrev pub is_begun : List ImpreciseRow → List ℕ → Bool
is_begun rows text = list_any (λ (m : ImpreciseRow). begins_caseless m.prefix text) rows

-- among these forms it stands for its licence alone
abbrev pub is_alone : List LicenseRow → List ImpreciseRow → ImpreciseRow → Bool
is_alone licenses forms f =
    not (list_any (fits_full f) licenses) && not (list_any (fits_form f) forms)

-- none of the given imprecise names begins with the form, and none of these nor of the full names
-- in front begins it
abbrev pub is_apart : List ImpreciseRow → List ImpreciseRow → ImpreciseRow → Bool
is_apart full rows f =
    not (fits_row rows f.prefix) && (not (is_begun full f.prefix) && not (is_begun rows f.prefix))

-- the form can be read, stands for its licence alone, and is apart
abbrev pub is_new : List LicenseRow → List ExceptionRow → List ImpreciseRow → ImpreciseRow → Bool
is_new licenses exceptions rows f =
    begins_unlisted licenses exceptions f.prefix && (is_alone licenses (all_forms licenses) f
    && is_apart (full_names licenses exceptions rows) rows f)

-- the forms that are taken, in the order of the licences
abbrev pub new_forms : List LicenseRow → List ExceptionRow → List ImpreciseRow → List ImpreciseRow
new_forms licenses exceptions rows = filter (is_new licenses exceptions rows) (all_forms licenses)

-- the full names, the given imprecise names, and behind them the forms
abbrev pub with_forms : List LicenseRow → List ExceptionRow → List ImpreciseRow → List ImpreciseRow
with_forms licenses exceptions rows =
    with_full_names licenses exceptions rows ++ new_forms licenses exceptions rows

-- each form that is taken means its licence, and any text that a full name or a given imprecise
-- name begins, what it meant
pub record ReadsForms (licenses : List LicenseRow) (exceptions : List ExceptionRow)
    (rows all : List ImpreciseRow) : Type 0 where
  pub form : (f : ImpreciseRow) → Contains (new_forms licenses exceptions rows) f
      → option_map (λ (m : ImpreciseRow). m.name) (first_fit all f.prefix) ≡ Some f.name
  pub kept : (text : List ℕ) (m : ImpreciseRow) →
      first_fit (with_full_names licenses exceptions rows) text ≡ Some m →
      first_fit all text ≡ Some m
