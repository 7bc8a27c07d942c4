-- Which packages of a run are told.
use Rattle.std.specs.Prelude.{◌≡◌, ℕ, Bool, true, List, Option, length, map, if◌then◌else◌}
use Rattle.std.specs.Borrow.{Bor}
use Rattle.gate_forms.specs.declared.reports.Report.{Report}
use Rattle.gate_forms.specs.declared.reports.Totals.{Totals}
use Rattle.spdx_gate.specs.declared.report.Row.{Row}
use Rattle.gate_told.specs.declared.forms.Format.{Format}
use Rattle.gate_told.specs.declared.packages.NamedPackage.{NamedPackage}
use Rattle.gate_told.specs.declared.packages.Scope.{Scope}
use Rattle.gate_told.specs.declared.packages.Scope.TheVariants as scope
use Rattle.gate_told.specs.Packages.{moved_report, reports_of, AreTold}
use Rattle.gate_told.specs.Told.{Telling}
use Rattle.gate_told.specs.Verdicts.{is_of_refusals, is_report_refused, refused_of, verdicts_text}

abbrev pub is_told : Scope → Report → Bool
is_told scope.All r = true
is_told scope.Refused r = is_report_refused r

-- those of some reports that are in the scope
abbrev pub told_in : Scope → List Report → List Report
told_in scope.All rs = rs
told_in scope.Refused rs = refused_of rs

-- all packages have a report, each by its own row, and told are the reports in the scope
pub record AreToldIn (scope : Scope) (policy : List ℕ) (ts : List Telling) (rows : List Row)
    (known : Option (Bor (List Bool))) (xs : List NamedPackage) (told : List Report) : Type 0 where
  pub all : List Report
  pub exact : map moved_report all ≡ reports_of policy ts rows known xs
  pub each : length xs ≡ length rows → AreTold xs rows all
  pub told_are : told ≡ told_in scope all

-- ---- forms

-- the packages that a form tells of: but for the page the refused ones
abbrev pub scope_of : Format → Scope
scope_of format = if is_of_refusals format then scope.Refused else scope.All

-- what is written of those that the form tells of is what is written of all
abbrev pub IsEnough : Format → List ℕ → Totals → Type 0
IsEnough format policy totals =
    (rs : List Report) →
    verdicts_text format policy totals (told_in (scope_of format) rs)
    ≡ verdicts_text format policy totals rs
