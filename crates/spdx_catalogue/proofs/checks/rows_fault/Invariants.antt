use Rattle.std.proofs.Common.{◌≡◌, None, map}
use Rattle.spdx_catalogue.specs.RowChecks.{first_broken, all_below, rules_at}
use Rattle.spdx_catalogue.proofs.checks.rows_fault.Given as goal

abbrev pub invariant-loop-row : goal.invariant-loop-row
invariant-loop-row g l = first_broken (all_below (rules_at g.R.Row.name_of g.R.Row.rules (map g.R.Row.shown l.rows)) l.row) ≡ None
