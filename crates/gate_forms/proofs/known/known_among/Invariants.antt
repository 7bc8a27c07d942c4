use Rattle.std.proofs.Common.{◌≡◌, filter, take}
use Rattle.gate_forms.specs.Known.{is_known}
use Rattle.gate_forms.proofs.known.known_among.Given as goal

abbrev pub invariant-loop-report : goal.invariant-loop-report
invariant-loop-report l = l.known.items ≡ filter is_known (take l.report-index l.reports)
