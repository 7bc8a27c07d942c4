-- What stands in the place of names that are deprecated.
use Rattle.std.specs.Prelude.{◌≡◌, ℕ, false, ◌==◌, List, [], ◌∷◌, Option, Some, None, option_map, if◌then◌else◌}
use Rattle.spdx_requirement.specs.Rows.{Rows, LicenseRow, ExceptionRow}
use Rattle.spdx_requirement.specs.Items.{listed, excepted, Requirement}
use Rattle.spdx_catalogue.specs.LookUps.{listed_exception}
use Rattle.spdx_catalogue.specs.LookUps as LookUps
use Rattle.spdx_catalogue.specs.Names.{without_plus}
use Rattle.spdx_licensee.specs.LicenseeText.{Names}

-- a name, and what to write in its place
pub record ReplacedName : Type 0 where
  pub name : List ℕ
  pub write : List ℕ

-- a licence, perhaps with an exception
pub record Successor : Type 0 where
  pub license : LicenseRow
  pub addition : Option ExceptionRow

-- what a row of a list of names says: of a licence what succeeds it, of an exception which one
-- does, or nothing
pub data KnownReplacement : Type 0 where
  of_license : LicenseRow → Successor → KnownReplacement
  of_exception : ExceptionRow → ExceptionRow → KnownReplacement
  of_nothing : KnownReplacement

-- the successor as a requirement
abbrev pub as_requirement : Successor → Requirement
as_requirement s =
    record { license = listed s.license false; addition = option_map excepted s.addition }

-- the successor that a requirement is, if it is one
abbrev pub IsSuccessor : Requirement → Option Successor → Type 0
IsSuccessor r (Some s) = r ≡ as_requirement s
IsSuccessor r None = (s : Successor) → r ≡ as_requirement s → ⊥

-- the successor that a text names, if it names one
abbrev pub IsSuccessorIn : Rows → List ℕ → Option Successor → Type 0
IsSuccessorIn c text (Some s) = Names c text (as_requirement s)
IsSuccessorIn c text None = (s : Successor) → Names c text (as_requirement s) → ⊥

-- the row names a listed licence, and writes a licence in its place, perhaps with an exception
pub record ReplacesLicense (c : Rows) (r : ReplacedName) (old : LicenseRow)
    (new : Successor) : Type 0 where
  pub named : LookUps.listed c.licenses (without_plus r.name) ≡ Some old
  pub written : Names c r.write (as_requirement new)

-- the row names a listed exception, and writes another one in its place
pub record ReplacesException (c : Rows) (r : ReplacedName) (old new : ExceptionRow) : Type 0 where
  pub named : listed_exception c.exceptions r.name ≡ Some old
  pub written : listed_exception c.exceptions r.write ≡ Some new

-- which licence a row replaces and how, if it replaces one
abbrev pub IsLicenseIn : Rows → ReplacedName → Option (LicenseRow × Successor) → Type 0
IsLicenseIn c r (Some f) = ReplacesLicense c r f.0 f.1
IsLicenseIn c r None = (old : LicenseRow) (new : Successor) → ReplacesLicense c r old new → ⊥

-- the same of an exception
abbrev pub IsExceptionIn : Rows → ReplacedName → Option (ExceptionRow × ExceptionRow) → Type 0
IsExceptionIn c r (Some f) = ReplacesException c r f.0 f.1
IsExceptionIn c r None = (old new : ExceptionRow) → ReplacesException c r old new → ⊥

-- the row says just that
abbrev pub IsReplacementOf : Rows → ReplacedName → KnownReplacement → Type 0
IsReplacementOf c r (of_license old new) = IsLicenseIn c r (Some (old, new))
IsReplacementOf c r (of_exception old new) =
    IsLicenseIn c r None × IsExceptionIn c r (Some (old, new))
IsReplacementOf c r of_nothing = IsLicenseIn c r None × IsExceptionIn c r None

-- the successor of a licence, by the first row that has one
abbrev pub successor_of : List KnownReplacement → LicenseRow → Option Successor
successor_of [] r = None
successor_of (of_license old new ∷ hs) r =
    if old.index == r.index then Some new else successor_of hs r
successor_of (of_exception old new ∷ hs) r = successor_of hs r
successor_of (of_nothing ∷ hs) r = successor_of hs r

-- the exception that succeeds an exception, by the first row that has one
abbrev pub exception_replacement : List KnownReplacement → ExceptionRow → Option ExceptionRow
exception_replacement [] r = None
exception_replacement (of_exception old new ∷ hs) r =
    if old.index == r.index then Some new else exception_replacement hs r
exception_replacement (of_license old new ∷ hs) r = exception_replacement hs r
exception_replacement (of_nothing ∷ hs) r = exception_replacement hs r
