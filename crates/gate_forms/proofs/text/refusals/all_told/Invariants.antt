use Rattle.std.proofs.Common.{◌≡◌, map, take}
use Rattle.gate_forms.specs.Refusals.{told_text}
use Rattle.gate_forms.specs.Tellings.{report_of, words_of}
use Rattle.gate_forms.proofs.text.refusals.all_told.Given as goal

abbrev pub invariant-loop-report : goal.invariant-loop-report
invariant-loop-report l =
    (map report_of l.all.items ≡ take l.report-index l.reports)
    × (map words_of l.all.items ≡ map (told_text l.style) (take l.report-index l.reports))
