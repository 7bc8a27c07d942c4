-- Refusals that are known.
use Rattle.std.specs.Prelude.{ℕ, List, [], ◌∷◌, ◌++◌, ◌&&◌, Bool, true, false, codes, filter, length}
use Rattle.finding_forms.specs.Totals.{counted}
use Rattle.foreign_text.specs.declared.sinks.Sink.TheVariants.{Line}
use Rattle.foreign_text.specs.Written.{text_for}
use Rattle.gate_forms.specs.declared.reports.Baseline.{Baseline}
use Rattle.gate_forms.specs.declared.reports.Baseline.TheVariants.{Absent, New, Known}
use Rattle.gate_forms.specs.declared.reports.Report.{Report}
use Rattle.gate_forms.specs.Report.{is_refused, package_text, separated}

abbrev pub is_known_state : Baseline → Bool
is_known_state Absent = false
is_known_state New = false
is_known_state Known = true

abbrev pub is_known : Report → Bool
is_known r = is_refused r.verdict && is_known_state r.baseline

abbrev pub known_words : List ℕ → List Report → List ℕ
known_words baseline rs =
    counted (length rs) (codes "package") ++ (codes " known from " ++ (text_for Line baseline ++
    (codes ": " ++ (separated (package_text Line) rs ++ 10 ∷ []))))

abbrev pub known_line : List ℕ → List Report → List ℕ
known_line baseline [] = []
known_line baseline (r ∷ rs) = known_words baseline (r ∷ rs)

-- the refusals that the baseline has too, in their order
abbrev pub known_text : List ℕ → List Report → List ℕ
known_text baseline reports = known_line baseline (filter is_known reports)
