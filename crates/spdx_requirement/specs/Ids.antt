-- The row that an id stands for.
use Rattle.spdx_requirement.specs.declared.row.License.{License}
use Rattle.spdx_requirement.specs.declared.row.Exception.{Exception}
use Rattle.spdx_requirement.specs.declared.id.LicenseId.{LicenseId}
use Rattle.spdx_requirement.specs.declared.id.ExceptionId.{ExceptionId}
use Rattle.spdx_requirement.specs.Rows.{LicenseRow, ExceptionRow, row_of, exception_of}

-- the row of a licence, as the catalogue holds it
abbrev pub license_in : LicenseId → License
license_in id = id.row.now

-- and as definitions see it
abbrev pub id_row : LicenseId → LicenseRow
id_row id = row_of (license_in id)

-- the same of an exception
abbrev pub exception_in : ExceptionId → Exception
exception_in id = id.row.now

-- and as definitions see it
abbrev pub exception_row : ExceptionId → ExceptionRow
exception_row id = exception_of (exception_in id)
