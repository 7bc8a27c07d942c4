-- Equality of requirements: rows are compared by their places in the list, references by their
-- texts.
use Rattle.std.specs.Prelude.{◌==◌, Bool, false, ◌&&◌, bytes_eq}
use Rattle.std.specs.Bool.{beq}
use Rattle.std.specs.Option.{option_eq}
use Rattle.spdx_requirement.specs.Items.{Reference, LicenseTerm, listed, referred, Addition, excepted, added, Requirement}

abbrev pub same_reference : Reference → Reference → Bool
same_reference x y = option_eq bytes_eq x.document y.document && bytes_eq x.name y.name

abbrev pub same_license : LicenseTerm → LicenseTerm → Bool
same_license (listed r m) (listed s n) = (r.index == s.index) && beq m n
same_license (referred x) (referred y) = same_reference x y
same_license (listed r m) (referred y) = false
same_license (referred x) (listed s n) = false

abbrev pub same_addition : Addition → Addition → Bool
same_addition (excepted r) (excepted s) = r.index == s.index
same_addition (added x) (added y) = same_reference x y
same_addition (excepted r) (added y) = false
same_addition (added x) (excepted s) = false

abbrev pub same_requirement : Requirement → Requirement → Bool
same_requirement r s =
    same_license r.license s.license && option_eq same_addition r.addition s.addition
