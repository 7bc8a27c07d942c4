use Rattle.std.proofs.Common.{◌≡◌, ◌++◌, true, drop, map}
use Rattle.finding_forms.specs.SarifLog.{results_text}
use Rattle.gate_forms.specs.Sarif.{result_of}
use Rattle.gate_told.specs.Verdicts.{refused_of}
use Rattle.gate_told.proofs.forms.put_results.Given as goal

abbrev pub invariant-loop-report : goal.invariant-loop-report
invariant-loop-report l =
    l.text.items ++ results_text l.is_first (map result_of (refused_of (drop l.report-index l.reports)))
    ≡ l.initial.text.items ++ results_text true (map result_of (refused_of l.reports))
