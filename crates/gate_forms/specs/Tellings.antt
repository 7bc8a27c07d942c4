-- The same over packages with what is told of each.
use Rattle.std.specs.Prelude.{ℕ, List, [], ◌∷◌, ◌++◌, bytes_eq, ◌&&◌, not, Bool, filter, map, string_bytes, if◌then◌else◌}
use Rattle.std.specs.List.{list_any}
use Rattle.finding_forms.specs.declared.forms.Style.{Style}
use Rattle.gate_forms.specs.declared.reports.Report.{Report}
use Rattle.gate_forms.specs.declared.text.refusals.Told.{Told}
use Rattle.gate_forms.specs.Report.{is_refused}
use Rattle.gate_forms.specs.Human.{refused_lines}
use Rattle.gate_forms.specs.Refusals.{also_line}

abbrev pub report_of : Told → Report
report_of t = t.report

abbrev pub words_of : Told → List ℕ
words_of t = string_bytes t.words

abbrev pub is_alike : Told → Told → Bool
is_alike t s = bytes_eq (words_of s) (words_of t)

abbrev pub refusal_told : Style → List Told → Told → List Told → List ℕ
refusal_told style earlier t later =
    if is_refused t.report.verdict && not (list_any (is_alike t) earlier)
    then refused_lines style t.report ++ also_line (map report_of (filter (is_alike t) later))
    else []

abbrev pub refusals_told : Style → List Told → List Told → List ℕ
refusals_told style earlier [] = []
refusals_told style earlier (t ∷ ts) =
    refusal_told style earlier t ts ++ refusals_told style (earlier ++ t ∷ []) ts
