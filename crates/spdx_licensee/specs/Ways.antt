-- The licences under which a requirement may be had, each with its addition.
use Rattle.std.specs.Prelude.{Bool, true, false, not, ◌||◌, ◌&&◌, ◌==◌, List, [], ◌∷◌, Option, map}
use Rattle.std.specs.List.{filter}
use Rattle.std.specs.Option.{option_eq}
use Rattle.spdx_requirement.specs.Rows.{Rows, LicenseRow}
use Rattle.spdx_requirement.specs.Flags.{is_gnu, is_deprecated}
use Rattle.spdx_requirement.specs.Endings.{ends_or_later}
use Rattle.spdx_requirement.specs.Items.{LicenseTerm, listed, referred, Addition, Requirement}
use Rattle.spdx_requirement.specs.Equality.{same_reference, same_addition}
use Rattle.spdx_licensee.specs.Satisfies.{is_as_late}

-- the name is no deprecated one, and means one version
abbrev pub is_one_version : LicenseRow → Bool
is_one_version r = not (is_deprecated r.flags) && not (is_gnu r.flags && ends_or_later r.name)

-- the licence is the one that is asked for, or a listed later version of it where those are meant
abbrev pub serves : LicenseRow → Bool → LicenseRow → Bool
serves asked later r = r.index == asked.index || (later && (is_one_version r && is_as_late r asked))

abbrev pub serves_term : LicenseTerm → LicenseTerm → Bool
serves_term (listed asked later) (listed r mark) = serves asked later r
serves_term (referred asked) (referred r) = same_reference asked r
serves_term (listed asked later) (referred r) = false
serves_term (referred asked) (listed r mark) = false

-- a licence with its addition is among those that a requirement stands for
abbrev pub stands_for : Requirement → Requirement → Bool
stands_for asked way =
    option_eq same_addition asked.addition way.addition && serves_term asked.license way.license

-- a licence with an addition
abbrev pub way_of : Option Addition → LicenseRow → Requirement
way_of a r = record { license = listed r false; addition = a }

-- the licences that a licence with an addition stands for
abbrev pub ways_by : Rows → LicenseTerm → Option Addition → List Requirement
ways_by c (listed r true) a = map (way_of a) (filter (serves r true) c.licenses)
ways_by c (listed r false) a = way_of a r ∷ []
ways_by c (referred r) a = record { license = referred r; addition = a } ∷ []

-- The licences that a requirement stands for, each with its addition: one, or where it has a mark
-- that one and its later versions, in the order of the list.
abbrev pub ways : Rows → Requirement → List Requirement
ways c r = ways_by c r.license r.addition
