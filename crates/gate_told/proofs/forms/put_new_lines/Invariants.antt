use Rattle.std.proofs.Common.{◌≡◌, ◌++◌, take, flat_map}
use Rattle.gate_told.specs.Verdicts.{line_text, new_of}
use Rattle.gate_told.proofs.forms.put_new_lines.Given as goal

abbrev pub invariant-loop-report : goal.invariant-loop-report
invariant-loop-report l = l.text.items ≡ l.initial.text.items ++ flat_map (line_text l.line) (new_of (take l.report-index l.reports))
