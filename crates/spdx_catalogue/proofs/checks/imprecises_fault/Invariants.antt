use Rattle.std.proofs.Common.{◌≡◌, None, map}
use Rattle.spdx_catalogue.specs.RowChecks.{first_broken, all_below, imprecise_rules}
use Rattle.spdx_requirement.specs.Rows.{row_of, imprecise_of}
use Rattle.spdx_catalogue.proofs.checks.imprecises_fault.Given as goal

abbrev pub invariant-loop-row : goal.invariant-loop-row
invariant-loop-row l = first_broken (all_below (imprecise_rules (map row_of l.licenses) (map imprecise_of l.rows)) l.row) ≡ None
