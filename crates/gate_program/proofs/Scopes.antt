-- What is told of the packages in the scope is what is told of all.
use Rattle.std.proofs.Common.{◌≡◌, ℕ, Bool, List, ◌++◌, refl, ap, ◌∙◌}
use Rattle.std.specs.Option.{option_copied}
use Rattle.std.specs.Prelude.{◌&&◌, ◌||◌, filter, not, Option, None, Some}
use Rattle.spdx_policy.specs.Rules.{Rules}
use Rattle.spdx_gate.specs.declared.report.Report.{Report}
use Rattle.gate_forms.specs.declared.reports.Report as forms
use Rattle.gate_forms.specs.Known.{is_known, is_known_state, known_line}
use Rattle.gate_told.specs.declared.forms.Format.{Format}
use Rattle.gate_told.specs.declared.forms.Format.TheVariants.{Human, Short, Json, Github, Sarif, Html}
use Rattle.gate_told.specs.declared.packages.Scope.{Scope}
use Rattle.gate_told.specs.declared.packages.Scope.TheVariants.{All, Refused}
use Rattle.gate_told.specs.Scopes.{scope_of, told_in}
use Rattle.gate_told.specs.Totals.{totals_of}
use Rattle.gate_told.specs.Verdicts.{is_report_refused, refused_of, verdicts_text}
use Rattle.gate_told.proofs.Scopes.{all_same, enough, filter_same}
use Rattle.gate_program.specs.declared.gated.Gated.{Gated}
use Rattle.gate_program.specs.declared.told.Look.{Look}
use Rattle.gate_program.specs.Gated.{older_in}
use Rattle.gate_program.specs.Scopes.{scope_by, scope_in}
use Rattle.gate_program.specs.Texts.{are_passed, behind_by, behind_verdicts, is_passed, known_part, told_by, told_text, unused_part}

pub passed_same : (s : Scope) (rs : List forms.Report) → are_passed (told_in s rs) ≡ are_passed rs
passed_same All rs = refl
passed_same Refused rs = all_same is_report_refused is_passed (λ r h. ap (λ (b : Bool). not b || is_known r) h) rs

all_known : (older : List ℕ) (rs : List forms.Report) → known_line older (filter is_known (refused_of rs)) ≡ known_line older (filter is_known rs)
all_known older rs = ap (known_line older) (filter_same is_report_refused is_known (λ r h. ap (λ (b : Bool). b && is_known_state r.baseline) h) rs)

known_same : (format : Format) (older : List ℕ) (rs : List forms.Report) → known_part format older (told_in (scope_of format) rs) ≡ known_part format older rs
known_same (Human style) older rs = all_known older rs
known_same Short older rs = all_known older rs
known_same Json older rs = refl
known_same Github older rs = refl
known_same (Sarif version) older rs = refl
known_same Html older rs = refl

behind_same : (format : Format) (older : Option (List ℕ)) (report : Report) (rs : List forms.Report) → behind_by format older report (told_in (scope_of format) rs) ≡ behind_by format older report rs
behind_same format None report rs = refl
behind_same format (Some older) report rs = known_same format older rs

by_same : (explain : Option (List ℕ)) (look : Look) (p : Rules) (path : List ℕ) (gated : Gated) (rs : List forms.Report)
    → told_by explain look p path gated (told_in (scope_by explain look.format) rs) ≡ told_by explain look p path gated rs
by_same (Some name) look p path gated rs = refl
by_same None look p path gated rs =
    let totals = totals_of gated.report in
    ap (λ (bs : List ℕ). bs ++ (behind_verdicts look.format gated (told_in (scope_of look.format) rs) ++ unused_part look p path gated.report)) (enough look.format path totals rs)
    ∙ ap (λ (bs : List ℕ). verdicts_text look.format path totals rs ++ (bs ++ unused_part look p path gated.report)) (behind_same look.format (older_in gated) gated.report rs)

pub text_same : (look : Look) (p : Rules) (path : List ℕ) (gated : Gated) (rs : List forms.Report) → told_text look p path gated (told_in (scope_in look) rs) ≡ told_text look p path gated rs
text_same look p path gated rs = by_same (option_copied look.explain) look p path gated rs
