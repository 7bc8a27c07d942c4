-- The rows of a catalogue as bytes and numbers, capacities aside.
use Rattle.std.specs.Prelude.{◌≡◌, Some, slice_get, IsUtf8, ℕ, List, string_bytes}
use Rattle.spdx_requirement.specs.declared.row.License.{License}
use Rattle.spdx_requirement.specs.declared.row.Exception.{Exception}
use Rattle.spdx_requirement.specs.declared.row.ImpreciseName.{ImpreciseName}

-- a listed licence; its index is its place in the list, and its flags are bits
pub record LicenseRow : Type 0 where
  pub name : List ℕ
  pub full_name : List ℕ
  pub index : ℕ
  pub flags : ℕ

-- a listed exception
pub record ExceptionRow : Type 0 where
  pub name : List ℕ
  pub index : ℕ
  pub flags : ℕ

-- another spelling: a text that begins with the prefix means the licence of that name
pub record ImpreciseRow : Type 0 where
  pub prefix : List ℕ
  pub name : List ℕ

-- what a catalogue shows
pub record Rows : Type 0 where
  pub version : List ℕ
  pub licenses : List LicenseRow
  pub exceptions : List ExceptionRow
  pub imprecise : List ImpreciseRow

-- a row of the catalogue as bytes and numbers
abbrev pub row_of : License → LicenseRow
row_of r =
    record {
      name = string_bytes r.name;
      full_name = string_bytes r.full_name;
      index = r.index;
      flags = r.flags;
    }

-- the same of an exception
abbrev pub exception_of : Exception → ExceptionRow
exception_of r = record { name = string_bytes r.name; index = r.index; flags = r.flags }

-- the same of another spelling
abbrev pub imprecise_of : ImpreciseName → ImpreciseRow
imprecise_of r = record { prefix = string_bytes r.prefix; name = string_bytes r.name }

-- the name of a licence
abbrev pub license_name : LicenseRow → List ℕ
license_name r = r.name

-- the name of an exception
abbrev pub exception_name : ExceptionRow → List ℕ
exception_name r = r.name

-- the prefix of each imprecise name is UTF-8, since it stands in a `String`
abbrev pub HasTextPrefixes : Rows → Type 0
HasTextPrefixes c =
    (row : ℕ) (m : ImpreciseRow) → slice_get c.imprecise row ≡ Some m → IsUtf8 m.prefix
