-- What a list says of names.
use Rattle.std.specs.Prelude.{◌≡◌, ℕ, List, [], ◌++◌, Option, None, Some, codes, flat_map, map}
use Rattle.spdx_requirement.specs.Rows.{ExceptionRow, LicenseRow, Rows, exception_name, license_name}
use Rattle.spdx_requirement.specs.Flags.{is_deprecated}
use Rattle.spdx_catalogue.specs.LookUps.{listed_caseless, listed_exception_caseless}
use Rattle.spdx_list.specs.Files.{ExtraRows}
use Rattle.list_told.specs.Flags.{exception_flags, flags_line, license_flags}
use Rattle.list_told.specs.Replacements.{IsReplacementIf}

-- ---- without names

abbrev pub name_line : List ℕ → List ℕ
name_line name = name ++ codes "\n"

-- the day of the version, where it is known
abbrev pub day_text : Option (List ℕ) → List ℕ
day_text None = []
day_text (Some day) = codes " of " ++ day

-- the version with its day, and each name a line
unfoldable pub names_text : Rows → Option (List ℕ) → List ℕ
names_text c day =
    codes "SPDX license list " ++ (c.version ++ (day_text day ++ (codes "\n" ++
    (flat_map name_line (map license_name c.licenses) ++
    flat_map name_line (map exception_name c.exceptions)))))

-- ---- of a name

abbrev pub replacement_line : Option (List ℕ) → List ℕ
replacement_line None = []
replacement_line (Some replacement) = codes "  write: " ++ (replacement ++ codes "\n")

unfoldable pub license_text : LicenseRow → Option (List ℕ) → List ℕ
license_text r replacement =
    r.name ++ (codes "\n  name: " ++ (r.full_name ++ (codes "\n" ++
    (flags_line (license_flags r) ++ replacement_line replacement))))

unfoldable pub exception_line : List ℕ
exception_line = codes "\n  an exception, written behind WITH\n"

unfoldable pub exception_text : ExceptionRow → List ℕ
exception_text r = r.name ++ (exception_line ++ flags_line (exception_flags r))

-- where the licence is deprecated, what to write in place of its name
pub record IsLicenseText (c : Rows) (x : ExtraRows) (r : LicenseRow) (text : List ℕ) : Type 0 where
  pub replacement : Option (List ℕ)
  pub replacement_is : IsReplacementIf (is_deprecated r.flags) c x r.name replacement
  pub text_is : text ≡ license_text r replacement

-- the row of the licence, else of the exception; nothing where the list has neither
abbrev pub IsTextBy : Rows → ExtraRows → Option LicenseRow → Option ExceptionRow → List ℕ → Type 0
IsTextBy c x (Some r) e text = IsLicenseText c x r text
IsTextBy c x None (Some e) text = text ≡ exception_text e
IsTextBy c x None None text = text ≡ []

-- the name stands in the list in some case
abbrev pub IsTextOf : Rows → ExtraRows → List ℕ → List ℕ → Type 0
IsTextOf c x name text =
    IsTextBy c x (listed_caseless c.licenses name) (listed_exception_caseless c.exceptions name) text
