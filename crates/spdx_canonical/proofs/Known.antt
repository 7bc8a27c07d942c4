-- What is known of the rows of a well formed catalogue.
use Rattle.std.proofs.Common.{◌≡◌, ℕ, true, false, List, Some, ◌∙◌, sym, ap, IsTrue}
use Rattle.spdx_requirement.specs.Rows.{LicenseRow, ExceptionRow, Rows}
use Rattle.spdx_catalogue.specs.Names.{is_name, is_operator}
use Rattle.spdx_catalogue.specs.LookUps.{listed, listed_exception, listed_caseless, listed_exception_caseless}
use Rattle.spdx_catalogue.specs.RowRules.{is_well_formed}
use Rattle.spdx_catalogue.proofs.Listed.{license_is_named, license_own_name, listed_is_license, listed_name, caseless_is_license, exception_is_named, exception_own_name, listed_is_exception, listed_exception_name, caseless_is_exception}

pub record IsNamed (row t : List ℕ) : Type 0 where
  pub same : row ≡ t
  pub name : is_name t ≡ true
  pub no_operator : is_operator t ≡ false

module _ (c : Rows) (well : IsTrue (is_well_formed c)) where
  -- a row that is found is the one of its name

  pub license_itself : (name : List ℕ) (r : LicenseRow) → listed c.licenses name ≡ Some r → listed c.licenses r.name ≡ Some r
  license_itself name r e = license_own_name c well r (listed_is_license c well name r e)

  pub license_caseless : (name : List ℕ) (r : LicenseRow) → listed_caseless c.licenses name ≡ Some r → listed c.licenses r.name ≡ Some r
  license_caseless name r e = license_own_name c well r (caseless_is_license c well name r e)

  pub exception_itself : (name : List ℕ) (r : ExceptionRow) → listed_exception c.exceptions name ≡ Some r → listed_exception c.exceptions r.name ≡ Some r
  exception_itself name r e = exception_own_name c well r (listed_is_exception c well name r e)

  pub exception_caseless : (name : List ℕ) (r : ExceptionRow) → listed_exception_caseless c.exceptions name ≡ Some r → listed_exception c.exceptions r.name ≡ Some r
  exception_caseless name r e = exception_own_name c well r (caseless_is_exception c well name r e)

  -- its name is the one that was asked for, and no operator

  pub license_named : (t : List ℕ) (r : LicenseRow) → listed c.licenses t ≡ Some r → IsNamed r.name t
  license_named t r e =
      let same = listed_name c well t r e in
      let known = license_is_named c well r (listed_is_license c well t r e) in
      record { same = same; name = ap is_name (sym same) ∙ known.0; no_operator = ap is_operator (sym same) ∙ known.1 }

  pub exception_named : (t : List ℕ) (r : ExceptionRow) → listed_exception c.exceptions t ≡ Some r → IsNamed r.name t
  exception_named t r e =
      let same = listed_exception_name c well t r e in
      let known = exception_is_named c well r (listed_is_exception c well t r e) in
      record { same = same; name = ap is_name (sym same) ∙ known.0; no_operator = ap is_operator (sym same) ∙ known.1 }
