-- What is told of a name that a list hasn't.
use Rattle.std.specs.Prelude.{◌≡◌, ℕ, Bool, true, ◌&&◌, List, [], ◌∷◌, ◌++◌, Contains, codes, flat_map, string_bytes}
use Rattle.std.specs.Option.{is_none}
use Rattle.std.specs.Str.{str_eq_ignore_ascii_case}
use Rattle.spdx_requirement.specs.Rows.{ExceptionRow, LicenseRow, Rows}
use Rattle.spdx_catalogue.specs.LookUps.{listed_caseless, listed_exception_caseless}
use Rattle.spdx_hints.specs.Hints.{hints_of}
use Rattle.list_told.specs.declared.unlisted.Unlisted.{Unlisted}

-- the list has a licence or an exception of that name, the case of ASCII letters aside
pub data IsListed (c : Rows) (name : List ℕ) : Type 0 where
  license : (r : LicenseRow) → Contains c.licenses r →
      str_eq_ignore_ascii_case r.name name ≡ true → IsListed c name
  exception : (r : ExceptionRow) → Contains c.exceptions r →
      str_eq_ignore_ascii_case r.name name ≡ true → IsListed c name

-- no look-up finds it
abbrev pub is_unlisted : Rows → List ℕ → Bool
is_unlisted c name =
    is_none (listed_caseless c.licenses name)
    && is_none (listed_exception_caseless c.exceptions name)

-- which names may be meant; where none may, which list it is, and how a newer one is taken
unfoldable pub told_of : List ℕ → List (List ℕ) → List ℕ
told_of version [] =
    codes ", which is " ++
    (version ++ codes "; --list, or SPDX_LIST, takes a newer one: 'spdx list --help'")
told_of version (name ∷ names) =
    codes "; did you mean " ++ (name ++ flat_map (λ n. codes ", " ++ n) names)

pub record UnlistedRow : Type 0 where
  pub name : List ℕ
  pub told : List ℕ

abbrev pub unlisted_row : Unlisted → UnlistedRow
unlisted_row u = record { name = string_bytes u.name; told = string_bytes u.told }

abbrev pub unlisted_by : Rows → List ℕ → UnlistedRow
unlisted_by c name = record { name = name; told = told_of c.version (hints_of c name) }
