-- What a reader of a family has not given yet.
use Rattle.std.specs.Prelude.{ℕ, List, [], Option, Some, None, if◌then◌else◌}
use Rattle.std.specs.Borrow.{Bor}
use Rattle.spdx_licensee.specs.declared.version.FamilyParts.{FamilyParts}
use Rattle.spdx_requirement.specs.Versions.{parts, without_version}

abbrev pub parts_of : Option (Bor (List ℕ)) → List (List ℕ)
parts_of None = []
parts_of (Some rest) = parts rest.now

-- with its version
abbrev pub parts_left : FamilyParts → List (List ℕ)
parts_left reader = parts_of reader.rest

abbrev pub family_left : FamilyParts → List (List ℕ)
family_left reader =
    if reader.version_passed then parts_left reader else without_version (parts_left reader)
