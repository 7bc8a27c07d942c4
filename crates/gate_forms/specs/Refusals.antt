-- Refused packages as people read them, equal refusals told once.
use Rattle.std.specs.Prelude.{ℕ, List, [], ◌∷◌, ◌++◌, bytes_eq, ◌&&◌, not, Bool, codes, filter, if◌then◌else◌}
use Rattle.std.specs.List.{list_any}
use Rattle.finding_forms.specs.declared.forms.Style.{Style}
use Rattle.foreign_text.specs.declared.sinks.Sink.TheVariants.{Line}
use Rattle.gate_forms.specs.declared.reports.Report.{Report}
use Rattle.gate_forms.specs.Report.{is_refused, package_text, separated, verdict_text}
use Rattle.gate_forms.specs.Human.{reasons_text, refused_lines}

-- what is told of a package behind its name: the verdict, the expression and the reasons; nothing
-- where it passes
abbrev pub told_text : Style → Report → List ℕ
told_text style r =
    if is_refused r.verdict then verdict_text Line r ++ (10 ∷ reasons_text style r) else []

-- whether the same is told of both
abbrev pub is_same : Style → Report → Report → Bool
is_same style r s = bytes_eq (told_text style s) (told_text style r)

abbrev pub also_line : List Report → List ℕ
also_line [] = []
also_line (r ∷ rs) = codes "  also: " ++ (separated (package_text Line) (r ∷ rs) ++ 10 ∷ [])

-- a package of which is told what is told of no earlier one, and behind it the later ones of which
-- the same is
abbrev pub refusal_text : Style → List Report → Report → List Report → List ℕ
refusal_text style earlier r later =
    if is_refused r.verdict && not (list_any (is_same style r) earlier)
    then refused_lines style r ++ also_line (filter (is_same style r) later)
    else []

abbrev pub refusals_from : Style → List Report → List Report → List ℕ
refusals_from style earlier [] = []
refusals_from style earlier (r ∷ rs) =
    refusal_text style earlier r rs ++ refusals_from style (earlier ++ r ∷ []) rs

abbrev pub refusals_text : Style → List Report → List ℕ
refusals_text style reports = refusals_from style [] reports
