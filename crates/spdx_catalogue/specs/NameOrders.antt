-- Over one catalogue the order by index is that of the names.
use Rattle.std.specs.Prelude.{◌≡◌, true, Some, slice_get}
use Rattle.std.specs.Ordering.{nat_cmp}
use Rattle.std.specs.declared.cmp.Ordering.{Ordering}
use Rattle.std.specs.Cmp.Lexicographic.{slice_cmp}
use Rattle.spdx_requirement.specs.Rows.{Rows, LicenseRow, ExceptionRow}
use Rattle.spdx_catalogue.specs.RowRules.{is_well_formed}

-- the order of two licences of one catalogue is that of their names, by bytes
abbrev pub IsLicenseNameOrder : LicenseRow → LicenseRow → Ordering → Type 0
IsLicenseNameOrder r s order =
    (c : Rows) → is_well_formed c ≡ true
    → slice_get c.licenses r.index ≡ Some r → slice_get c.licenses s.index ≡ Some s
    → order ≡ slice_cmp nat_cmp r.name s.name

-- the order of two exceptions of one catalogue is that of their names, by bytes
abbrev pub IsExceptionNameOrder : ExceptionRow → ExceptionRow → Ordering → Type 0
IsExceptionNameOrder r s order =
    (c : Rows) → is_well_formed c ≡ true
    → slice_get c.exceptions r.index ≡ Some r → slice_get c.exceptions s.index ≡ Some s
    → order ≡ slice_cmp nat_cmp r.name s.name
