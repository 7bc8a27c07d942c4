use Rattle.std.proofs.Common.{◌≡◌, take}
use Rattle.gate_told.specs.Verdicts.{new_of}
use Rattle.gate_told.proofs.forms.new_among.Given as goal

abbrev pub invariant-loop-report : goal.invariant-loop-report
invariant-loop-report l = l.new.items ≡ new_of (take l.report-index l.reports)
