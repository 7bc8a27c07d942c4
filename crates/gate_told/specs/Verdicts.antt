-- The verdicts on packages in each form.
use Rattle.std.specs.Prelude.{◌≡◌, ℕ, ◌+◌, List, ◌∷◌, [], ◌++◌, Bool, true, false, not, nat_le, bytes_eq, filter, flat_map, map, Some, if◌then◌else◌}
use Rattle.std.specs.List.{list_any}
use Rattle.json.specs.Json.{document}
use Rattle.foreign_text.specs.PageText.{page_text}
use Rattle.finding_forms.specs.declared.forms.Style.{Style}
use Rattle.finding_forms.specs.SarifLog.{log_of, log_text}
use Rattle.gate_forms.specs.declared.reports.Report.{Report}
use Rattle.gate_forms.specs.declared.reports.Totals.{Totals}
use Rattle.gate_forms.specs.Human.{explained_text, human_text}
use Rattle.gate_forms.specs.Json.{json_lines}
use Rattle.gate_forms.specs.Known.{is_known}
use Rattle.gate_forms.specs.Lines.{github_text, short_text}
use Rattle.gate_forms.specs.Page.{page_with}
use Rattle.gate_forms.specs.Refusals.{refusals_text}
use Rattle.gate_forms.specs.Report.{is_refused}
use Rattle.gate_forms.specs.Sarif.{result_of}
use Rattle.gate_forms.specs.Totals.{totals_text}
use Rattle.gate_told.specs.declared.forms.Format.{Format}
use Rattle.gate_told.specs.declared.forms.Format.TheVariants.{Human, Short, Json, Github, Sarif, Html}
use Rattle.gate_told.specs.declared.forms.Line.{Line}
use Rattle.gate_told.specs.declared.forms.Line.TheVariants as line

abbrev pub is_report_refused : Report → Bool
is_report_refused r = is_refused r.verdict

abbrev pub refused_of : List Report → List Report
refused_of rs = filter is_report_refused rs

-- all but the refusals that are known
abbrev pub new_of : List Report → List Report
new_of rs = filter (λ r. not (is_known r)) rs

-- up to a thousand refusals
abbrev pub are_gathered : Totals → Bool
are_gathered totals = nat_le (totals.refused + totals.unstated) 1000

-- equal refusals are told once where they are gathered
abbrev pub people_text : Style → Totals → List Report → List ℕ
people_text style totals rs =
    if are_gathered totals then refusals_text style rs else flat_map (human_text style) rs

-- one log of the refused packages, and a newline
abbrev pub log_line : List ℕ → List Report → List ℕ
log_line version rs = log_text version (map result_of (refused_of rs)) ++ 10 ∷ []

-- one behind the other; refusals that are known only for machines and on the page, totals only for
-- people
abbrev pub verdicts_text : Format → List ℕ → Totals → List Report → List ℕ
verdicts_text (Human style) policy totals rs =
    people_text style totals (new_of rs) ++ totals_text totals
verdicts_text Short policy totals rs = flat_map short_text (new_of rs) ++ totals_text totals
verdicts_text Json policy totals rs = flat_map json_lines rs
verdicts_text Github policy totals rs = flat_map github_text (new_of rs)
verdicts_text (Sarif version) policy totals rs = log_line version.now rs
verdicts_text Html policy totals rs = page_with page_text policy totals rs

-- ---- laws

abbrev pub is_any_refused : List Report → Bool
is_any_refused rs = list_any is_report_refused rs

-- the forms that tell of refused packages alone
abbrev pub is_of_refusals : Format → Bool
is_of_refusals (Human style) = true
is_of_refusals Short = true
is_of_refusals Json = true
is_of_refusals Github = true
is_of_refusals (Sarif version) = true
is_of_refusals Html = false

-- what is told is a log, which reads back as that of the refused packages, and a newline
abbrev pub IsLog : List ℕ → List ℕ → List Report → Type 0
IsLog version told rs =
    (log : List ℕ) × (told ≡ log ++ 10 ∷ []) ×
    (document log ≡ Some (log_of version (map result_of (refused_of rs))))

abbrev pub IsLogOf : Format → List ℕ → List Report → Type 0
IsLogOf (Sarif version) told rs = IsLog version.now told rs
IsLogOf (Human style) told rs = Unit {0}
IsLogOf Short told rs = Unit {0}
IsLogOf Json told rs = Unit {0}
IsLogOf Github told rs = Unit {0}
IsLogOf Html told rs = Unit {0}

-- ---- packages of a name

abbrev pub is_named : List ℕ → Report → Bool
is_named name r = bytes_eq r.name.now name

abbrev pub is_any_named : List ℕ → List Report → Bool
is_any_named name rs = list_any (is_named name) rs

abbrev pub named : List ℕ → List Report → List Report
named name rs = filter (is_named name) rs

abbrev pub explanations_text : Style → List ℕ → List Report → List ℕ
explanations_text style name rs = flat_map (explained_text style) (named name rs)

-- ---- a package in a line

abbrev pub line_text : Line → Report → List ℕ
line_text (line.Human style) r = human_text style r
line_text line.Short r = short_text r
line_text line.Json r = json_lines r
line_text line.Github r = github_text r
