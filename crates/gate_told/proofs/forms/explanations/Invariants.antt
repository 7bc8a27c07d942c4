use Rattle.std.proofs.Common.{◌≡◌, take}
use Rattle.gate_told.specs.Verdicts.{explanations_text}
use Rattle.gate_told.proofs.forms.explanations.Given as goal

abbrev pub invariant-loop-report : goal.invariant-loop-report
invariant-loop-report l = l.text.items ≡ explanations_text l.style l.name (take l.report-index l.reports)
