-- What equality sees of items: of a row its index alone, for a row is the one at its index.
use Rattle.std.specs.Prelude.{ℕ, Bool, Option, option_map}
use Rattle.spdx_requirement.specs.Items.{Reference, LicenseTerm, listed, referred, Addition, excepted, added, Requirement}

pub data LicenseKey : Type 0 where
  license_row : ℕ → Bool → LicenseKey
  license_reference : Reference → LicenseKey

pub data AdditionKey : Type 0 where
  exception_row : ℕ → AdditionKey
  addition_reference : Reference → AdditionKey

pub record RequirementKey : Type 0 where
  pub license : LicenseKey
  pub addition : Option AdditionKey

abbrev pub license_key : LicenseTerm → LicenseKey
license_key (listed r mark) = license_row r.index mark
license_key (referred r) = license_reference r

abbrev pub addition_key : Addition → AdditionKey
addition_key (excepted r) = exception_row r.index
addition_key (added r) = addition_reference r

abbrev pub requirement_key : Requirement → RequirementKey
requirement_key r =
    record { license = license_key r.license; addition = option_map addition_key r.addition }
