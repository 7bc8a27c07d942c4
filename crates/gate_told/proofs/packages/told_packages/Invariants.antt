use Rattle.std.proofs.Common.{◌≡◌, List, ◌++◌, map, drop}
use Rattle.gate_forms.specs.declared.reports.Report.{Report}
use Rattle.gate_told.specs.Packages.{moved_report, reports_from, reports_of}
use Rattle.gate_told.specs.Scopes.{told_in}
use Rattle.gate_told.specs.Texts.{telling_in}
use Rattle.gate_told.proofs.packages.told_packages.Given as goal

abbrev pub invariant-loop-number : goal.invariant-loop-number
invariant-loop-number l =
    (all : List Report) ×
    (map moved_report all ++ reports_from l.policy (map telling_in l.breakdowns) l.rows l.known l.number (drop l.number l.packages)
    ≡ reports_of l.policy (map telling_in l.breakdowns) l.rows l.known l.packages) ×
    (l.told.items ≡ told_in l.scope all)
