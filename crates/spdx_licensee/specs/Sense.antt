-- The requirement that is judged in place of the one that was read: deprecated names give way to
-- what stands in their place, and whether later versions are meant is a mark alone.
use Rattle.std.specs.Prelude.{Bool, true, false, ◌&&◌, not, List, Option, Some, None, option_map, option_and_then, unwrap_or, if◌then◌else◌}
use Rattle.std.specs.Option.{option_map_or}
use Rattle.spdx_requirement.specs.Rows.{Rows, LicenseRow, ExceptionRow}
use Rattle.spdx_requirement.specs.Flags.{is_gnu, is_deprecated}
use Rattle.spdx_requirement.specs.Endings.{or_later, has_suffix, without}
use Rattle.spdx_requirement.specs.Items.{LicenseTerm, listed, referred, Addition, excepted, added, Requirement}
use Rattle.spdx_catalogue.specs.LookUps.{gnu_listed}
use Rattle.spdx_licensee.specs.Satisfies.{allows_later}
use Rattle.spdx_licensee.specs.Replacements.{KnownReplacement, Successor, successor_of, exception_replacement}

-- a GNU licence without an ending is the one that is listed with `-only`
abbrev pub only_row : Rows → LicenseRow → LicenseRow
only_row c r =
    if is_gnu r.flags && not (has_suffix r.name)
    then unwrap_or (gnu_listed c.licenses r.name false) r
    else r

-- a licence that is still deprecated has a successor, if the list states one
abbrev pub succeeds : List KnownReplacement → LicenseRow → Option Successor
succeeds hs r = if is_deprecated r.flags then successor_of hs r else None

-- The licence and the addition, with the successor in the licence's place. Where both have an
-- addition the requirement's own counts.
abbrev pub replaced : LicenseRow → Option Addition → Option Successor → LicenseRow × Option Addition
replaced r a None = (r, a)
replaced r None (Some s) = (s.license, option_map excepted s.addition)
replaced r (Some a) (Some s) = (s.license, Some a)

-- an exception that is deprecated gives way to the one that succeeds it
abbrev pub current_exception : List KnownReplacement → ExceptionRow → ExceptionRow
current_exception hs e =
    if is_deprecated e.flags then unwrap_or (exception_replacement hs e) e else e

abbrev pub current_addition : List KnownReplacement → Addition → Addition
current_addition hs (excepted e) = excepted (current_exception hs e)
current_addition hs (added r) = added r

-- of a GNU licence that ends in `-or-later` the one that is listed with `-only`
abbrev pub only_twin : Rows → LicenseRow → Option LicenseRow
only_twin c r =
    if is_gnu r.flags then option_and_then (λ front. gnu_listed c.licenses front false)
    (without or_later r.name)
    else None

-- a licence, and whether its later versions are meant, which the ending `-or-later` says too
abbrev pub versions_from : Rows → LicenseRow → Bool → LicenseTerm
versions_from c r mark =
    option_map_or (λ only. listed only true) (only_twin c r) (listed r (allows_later r mark))

-- a listed licence with its mark and its addition, and what came in its place
abbrev pub sense_behind : Rows → List KnownReplacement → Bool → LicenseRow × Option Addition
    → Requirement
sense_behind c hs mark now =
    record {
      license = versions_from c now.0 mark;
      addition = option_map (current_addition hs) now.1;
    }

-- what a licence with its addition means
abbrev pub sense_of : Rows → List KnownReplacement → LicenseTerm → Option Addition → Requirement
sense_of c hs (listed r mark) a =
    sense_behind c hs mark (replaced (only_row c r) a (succeeds hs (only_row c r)))
sense_of c hs (referred r) a =
    record { license = referred r; addition = option_map (current_addition hs) a }

-- what a requirement means
abbrev pub sense : Rows → List KnownReplacement → Requirement → Requirement
sense c hs r = sense_of c hs r.license r.addition
