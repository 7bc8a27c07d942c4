-- Packages and changes, as texts.
use Rattle.std.specs.Prelude.{ℕ, List}
use Rattle.package_changes.specs.declared.package.Package.{Package}
use Rattle.package_changes.specs.declared.package.Change.{Change}
use Rattle.package_changes.specs.declared.package.Change.TheVariants as change

pub record Row : Type 0 where
  pub name : List ℕ
  pub version : List ℕ
  pub license : List ℕ

abbrev pub row_of : Package → Row
row_of p = record { name = p.name.now; version = p.version.now; license = p.license.now }

-- what became of a package: both lists have it, as the older and as the newer one has it, or only
-- one has it
pub data ChangeRow : Type 0 where
  stayed : Row → Row → ChangeRow
  went : Row → ChangeRow
  came : Row → ChangeRow

abbrev pub change_row : Change → ChangeRow
change_row (change.Stayed old new) = stayed (row_of old) (row_of new)
change_row (change.Went old) = went (row_of old)
change_row (change.Came new) = came (row_of new)
