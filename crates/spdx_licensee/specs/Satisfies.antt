-- Which requirements a licensee satisfies.
use Rattle.std.specs.Prelude.{ℕ, Bool, false, not, ◌||◌, ◌&&◌, ◌==◌, List, Option, Some, None, bytes_eq}
use Rattle.std.specs.Option.{option_eq}
use Rattle.std.specs.Cmp.Lexicographic.{pointwise}
use Rattle.spdx_requirement.specs.Rows.{LicenseRow}
use Rattle.spdx_requirement.specs.Flags.{is_gnu}
use Rattle.spdx_requirement.specs.Endings.{ends_or_later}
use Rattle.spdx_requirement.specs.Items.{LicenseTerm, listed, referred, Requirement}
use Rattle.spdx_requirement.specs.Versions.{version, versioned_name, family}
use Rattle.spdx_requirement.specs.Equality.{same_reference, same_addition}
use Rattle.spdx_licensee.specs.Version.{older}

-- later versions are meant too: by the mark, or by the ending of a GNU licence
abbrev pub allows_later : LicenseRow → Bool → Bool
allows_later row or_later = or_later || (is_gnu row.flags && ends_or_later row.name)

-- both names have a version, and the held one is not older
abbrev pub not_older : Option (List ℕ) → Option (List ℕ) → Bool
not_older (Some held) (Some required) = not (older held required)
not_older (Some held) None = false
not_older None required = false

-- the held licence is of the same family and not older
abbrev pub is_as_late : LicenseRow → LicenseRow → Bool
is_as_late held required =
    pointwise bytes_eq (family held) (family required)
    && not_older (version (versioned_name held)) (version (versioned_name required))

-- the same licence, whatever its mark, or where later versions are meant, one as late; of
-- references the same
abbrev pub covers : LicenseTerm → LicenseTerm → Bool
covers (listed held mark) (listed required or_later) =
    held.index == required.index || (allows_later required or_later && is_as_late held required)
covers (referred held) (referred required) = same_reference held required
covers (listed held mark) (referred required) = false
covers (referred held) (listed required or_later) = false

-- the held requirement satisfies the required one
abbrev pub satisfies : Requirement → Requirement → Bool
satisfies held required =
    option_eq same_addition held.addition required.addition && covers held.license required.license
