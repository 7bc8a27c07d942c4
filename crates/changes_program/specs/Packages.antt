-- Packages, as changes have them.
use Rattle.std.specs.Prelude.{ℕ, List, [], Option, None, Some, option_map, string_bytes}
use Rattle.package_items.specs.declared.package.License.{License}
use Rattle.package_items.specs.declared.package.License.TheVariants as license
use Rattle.package_items.specs.declared.package.Package.{Package}
use Rattle.package_changes.specs.Rows.{Row}
use Rattle.gate_program.specs.Asked.{told_name}

abbrev pub stated_in : License → List ℕ
stated_in license.Unstated = []
stated_in (license.Stated text) = string_bytes text

abbrev pub or_empty : Option (List ℕ) → List ℕ
or_empty None = []
or_empty (Some text) = text

-- a package by its name, unless that is the number of its line, its version and its licence, which
-- are empty where they aren't stated
abbrev pub row_in : Package → Row
row_in p = record {
  name = told_name p;
  version = or_empty (option_map string_bytes p.version);
  license = stated_in p.license;
}
