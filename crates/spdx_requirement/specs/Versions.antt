-- The parts of a name between hyphens: its base, its version and its family.
use Rattle.std.specs.Prelude.{ℕ, Bool, not, ◌||◌, ◌==◌, List, [], ◌∷◌, Option, find, take_while, if◌then◌else◌, unwrap_or}
use Rattle.std.specs.List.{list_all, slice_split}
use Rattle.std.specs.Char.{is_ascii_digit}
use Rattle.spdx_requirement.specs.Endings.{only, or_later, without}
use Rattle.spdx_requirement.specs.Flags.{is_gnu}
use Rattle.spdx_requirement.specs.Rows.{LicenseRow}

-- the parts between hyphens: there is always one; an empty part counts
abbrev pub parts : List ℕ → List (List ℕ)
parts name = slice_split (λ b. b == 45) name

-- of digits and dots alone
abbrev pub is_version : List ℕ → Bool
is_version part = list_all (λ b. is_ascii_digit b || b == 46) part

-- the first part that is a version
abbrev pub version : List ℕ → Option (List ℕ)
version name = find is_version (parts name)

-- what stands before the first hyphen, or the whole name
abbrev pub base : List ℕ → List ℕ
base name = take_while (λ b. not (b == 45)) name

-- the name of which family and version are told: of a GNU licence, its ending taken off
abbrev pub versioned_name : LicenseRow → List ℕ
versioned_name r =
    if is_gnu r.flags then unwrap_or (without only r.name)
    (unwrap_or (without or_later r.name) r.name) else r.name

-- the parts but for the first that is a version
abbrev pub without_version : List (List ℕ) → List (List ℕ)
without_version [] = []
without_version (p ∷ ps) = if is_version p then ps else p ∷ without_version ps

-- licences of one family differ in their version alone
abbrev pub family : LicenseRow → List (List ℕ)
family r = without_version (parts (versioned_name r))
