-- The items of a requirement as rows and bytes, capacities aside.
use Rattle.std.specs.Prelude.{ℕ, Bool, List, Option, Some, None, option_map, string_bytes}
use Rattle.spdx_requirement.specs.declared.reference.LicenseRef.{LicenseRef}
use Rattle.spdx_requirement.specs.declared.reference.AdditionRef.{AdditionRef}
use Rattle.spdx_requirement.specs.declared.item.LicenseItem.{LicenseItem}
use Rattle.spdx_requirement.specs.declared.item.LicenseItem.TheVariants as item
use Rattle.spdx_requirement.specs.declared.item.AdditionItem.{AdditionItem}
use Rattle.spdx_requirement.specs.declared.item.AdditionItem.TheVariants as addition
use Rattle.spdx_requirement.specs.declared.requirement.LicenseReq.{LicenseReq}
use Rattle.spdx_requirement.specs.Rows.{LicenseRow, ExceptionRow}
use Rattle.spdx_requirement.specs.Ids.{id_row, exception_row}

-- the two texts of a reference
pub record Reference : Type 0 where
  pub document : Option (List ℕ)
  pub name : List ℕ

-- a row with its mark, or a reference
pub data LicenseTerm : Type 0 where
  listed : LicenseRow → Bool → LicenseTerm
  referred : Reference → LicenseTerm

-- a row, or a reference
pub data Addition : Type 0 where
  excepted : ExceptionRow → Addition
  added : Reference → Addition

-- a licence, and the addition that it has, if any
pub record Requirement : Type 0 where
  pub license : LicenseTerm
  pub addition : Option Addition

-- the texts of a reference to a licence
abbrev pub license_reference_of : LicenseRef → Reference
license_reference_of r =
    record { document = option_map string_bytes r.doc_ref; name = string_bytes r.lic_ref }

-- the texts of a reference to an addition
abbrev pub addition_reference_of : AdditionRef → Reference
addition_reference_of r =
    record { document = option_map string_bytes r.doc_ref; name = string_bytes r.add_ref }

-- a licence as its row and its mark, or as a reference
abbrev pub license_of : LicenseItem → LicenseTerm
license_of (item.Spdx id or_later) = listed (id_row id) or_later
license_of (item.Other r) = referred (license_reference_of r.value)

-- an addition as its row, or as a reference
abbrev pub addition_of : AdditionItem → Addition
addition_of (addition.Spdx id) = excepted (exception_row id)
addition_of (addition.Other r) = added (addition_reference_of r.value)

-- a requirement as rows and texts
abbrev pub requirement_of : LicenseReq → Requirement
requirement_of r =
    record { license = license_of r.license; addition = option_map addition_of r.addition }

-- the row of a listed one
abbrev pub listed_row : LicenseTerm → Option LicenseRow
listed_row (listed r mark) = Some r
listed_row (referred r) = None

abbrev pub addition_row : Addition → Option ExceptionRow
addition_row (excepted r) = Some r
addition_row (added r) = None
