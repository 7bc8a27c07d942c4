-- What rows, successors and replacements show.
use Rattle.std.specs.Prelude.{option_map}
use Rattle.spdx_requirement.specs.declared.id.LicenseId.{LicenseId}
use Rattle.spdx_requirement.specs.declared.id.ExceptionId.{ExceptionId}
use Rattle.spdx_requirement.specs.Rows.{LicenseRow, ExceptionRow}
use Rattle.spdx_requirement.specs.Ids.{id_row, exception_row}
use Rattle.spdx_licensee.specs.declared.replacements.ReplacedName.{ReplacedName}
use Rattle.spdx_licensee.specs.declared.replacements.Successor.{Successor}
use Rattle.spdx_licensee.specs.declared.replacements.KnownReplacement.{KnownReplacement}
use Rattle.spdx_licensee.specs.declared.replacements.KnownReplacement.TheVariants as replacement
use Rattle.spdx_licensee.specs.Replacements as rows

-- a row shows its two texts
abbrev pub replaced_name : ReplacedName → rows.ReplacedName
replaced_name r = record { name = r.name.now; write = r.write.now }

-- a successor shows its rows
abbrev pub successor : Successor → rows.Successor
successor s = record { license = id_row s.license; addition = option_map exception_row s.addition }

-- two that belong together
abbrev pub license_pair : LicenseId × Successor → LicenseRow × rows.Successor
license_pair f = (id_row f.0, successor f.1)

abbrev pub exception_pair : ExceptionId × ExceptionId → ExceptionRow × ExceptionRow
exception_pair f = (exception_row f.0, exception_row f.1)

-- what a row says, as rows
abbrev pub replacement_shown : KnownReplacement → rows.KnownReplacement
replacement_shown (replacement.License old new) = rows.of_license (id_row old) (successor new)
replacement_shown (replacement.Exception old new) =
    rows.of_exception (exception_row old) (exception_row new)
replacement_shown replacement.Nothing = rows.of_nothing
