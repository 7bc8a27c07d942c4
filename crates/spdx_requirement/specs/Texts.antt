-- The printed texts of items and requirements.
use Rattle.std.specs.Prelude.{ℕ, true, false, List, [], ◌++◌, Option, Some, None, codes, if◌then◌else◌}
use Rattle.std.specs.Option.{option_map_or}
use Rattle.spdx_requirement.specs.Rows.{LicenseRow}
use Rattle.spdx_requirement.specs.Flags.{is_gnu, is_deprecated}
use Rattle.spdx_requirement.specs.Items.{LicenseTerm, listed, referred, Addition, excepted, added, Requirement}

-- `LicenseRef-y`, or `DocumentRef-x:LicenseRef-y`, for the prefix `LicenseRef-`
abbrev pub reference_text : List ℕ → Option (List ℕ) → List ℕ → List ℕ
reference_text prefix None y = prefix ++ y
reference_text prefix (Some x) y = codes "DocumentRef-" ++ (x ++ (codes ":" ++ (prefix ++ y)))

-- what the mark adds to a name: a GNU name that is not deprecated says it already
abbrev pub mark_text : LicenseRow → List ℕ
mark_text r =
    if is_gnu r.flags then (if is_deprecated r.flags then codes "-or-later" else []) else codes "+"

abbrev pub license_text : LicenseTerm → List ℕ
license_text (listed r false) = r.name
license_text (listed r true) = r.name ++ mark_text r
license_text (referred r) = reference_text (codes "LicenseRef-") r.document r.name

abbrev pub addition_text : Addition → List ℕ
addition_text (excepted r) = r.name
addition_text (added r) = reference_text (codes "AdditionRef-") r.document r.name

abbrev pub requirement_text : Requirement → List ℕ
requirement_text r =
    license_text r.license ++ option_map_or (λ a. codes " WITH " ++ addition_text a) r.addition []
