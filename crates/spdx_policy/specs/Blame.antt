-- Which names and ranges of a draft are at fault.
use Rattle.std.specs.Prelude.{◌≡◌, ℕ, List, Option, Some, Err, slice_get, string_bytes}
use Rattle.semver.specs.Parse.{req_of}
use Rattle.spdx_requirement.specs.Rows.{Rows}
use Rattle.spdx_lexer.specs.Faults.{fault_of}
use Rattle.spdx_lexer.specs.Code.{span_of}
use Rattle.spdx_requirement.specs.Items.{Requirement}
use Rattle.spdx_licensee.specs.LicenseeText.{IsLicenseeFault}
use Rattle.spdx_policy.specs.declared.error.Key.{Key}
use Rattle.spdx_policy.specs.declared.error.Key.TheVariants as key
use Rattle.spdx_policy.specs.declared.error.Section.{Section}
use Rattle.spdx_policy.specs.declared.error.Section.TheVariants as section
use Rattle.spdx_policy.specs.declared.error.Place.{Place}
use Rattle.spdx_policy.specs.declared.fault.PolicyFault.{PolicyFault}
use Rattle.spdx_policy.specs.declared.fault.PolicyFault.TheVariants as fault
use Rattle.spdx_policy.specs.Shape.{one}
use Rattle.spdx_policy.specs.Drafts.{ExceptionRow, ClarifyRow}
use Rattle.spdx_policy.specs.Meant.{HasOne, AtEach, AtEachBefore, IsEntry, IsExempted, IsClarified}

-- the text is no entry
abbrev pub IsNoEntry : Rows → List ℕ → Type 0
IsNoEntry c text = (r : Requirement) → IsEntry c text r → ⊥

-- the text, which stands at the place, is no entry; why it names no licensee is told
abbrev pub BlamesName : Rows → Place → List ℕ → PolicyFault → Type 0
BlamesName c p text (fault.NotALicensee q t s r) =
    (q ≡ p) × (string_bytes t ≡ text) × IsLicenseeFault c text (fault_of r) (span_of s) ×
    IsNoEntry c text
BlamesName c p text f = ⊥

-- the first of the texts at a key that is none
abbrev pub BlamesNames : Rows → Section → Key → List (List ℕ) → PolicyFault → Type 0
BlamesNames c s k texts f =
    (i : ℕ) × (text : List ℕ) × (slice_get texts i ≡ Some text) ×
    AtEachBefore (HasOne (IsEntry c)) texts i
    × BlamesName c (one s k i) text f

-- the names of an exception are entries
abbrev pub AreEntries : Rows → ExceptionRow → Type 0
AreEntries c e = AtEach (HasOne (IsEntry c)) e.allow

-- the text of the table's range is none; the error is that of its reading
abbrev pub BlamesRange : Section → Option (List ℕ) → PolicyFault → Type 0
BlamesRange s versions (fault.NotARange t text e words) =
    (t ≡ s) × (versions ≡ Some (string_bytes text)) × (req_of (string_bytes text) ≡ Err e)
BlamesRange s versions f = ⊥

-- the first range of an exception that is none
abbrev pub BlamesExempted : List ExceptionRow → PolicyFault → Type 0
BlamesExempted es f =
    (i : ℕ) × (e : ExceptionRow) × (slice_get es i ≡ Some e) × AtEachBefore (HasOne IsExempted) es i
    × BlamesRange (section.Exception i) e.versions f

-- the first name of the exceptions that is none
abbrev pub BlamesExempting : Rows → List ExceptionRow → PolicyFault → Type 0
BlamesExempting c es f =
    (i : ℕ) × (e : ExceptionRow) × (slice_get es i ≡ Some e) × AtEachBefore (AreEntries c) es i
    × BlamesNames c (section.Exception i) key.Allow e.allow f

-- the first range of a clarification that is none
abbrev pub BlamesClarified : List ClarifyRow → PolicyFault → Type 0
BlamesClarified es f =
    (i : ℕ) × (e : ClarifyRow) × (slice_get es i ≡ Some e) × AtEachBefore (HasOne IsClarified) es i
    × BlamesRange (section.Clarify i) e.versions f
