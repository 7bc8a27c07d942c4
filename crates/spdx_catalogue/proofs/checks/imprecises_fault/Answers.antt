use Rattle.std.proofs.Common.{arith, sym, ◌≤◌, ◌+◌, length, map}
use Rattle.spdx_catalogue.specs.RowChecks.{imprecise_rules}
use Rattle.spdx_requirement.specs.Rows.{row_of, imprecise_of}
use Rattle.spdx_catalogue.proofs.First.{below_next, below_more}
use Rattle.spdx_catalogue.proofs.checks.imprecises_fault.Goals as goal

pub returns-in-Some : goal.returns-in-Some
returns-in-Some c =
    let f = imprecise_rules (map row_of c.args.licenses.now) (map imprecise_of c.args.rows.now) in
    let le : c.loop-row.row + 1 ≤ length c.args.rows.now = omega arith in
    sym (below_more f (c.loop-row.row + 1) (length c.args.rows.now) c.in-Some.fault le (below_next f c.loop-row.row _ c.loop-row.invariant c.in-Some.ensures))

pub loop-row-preserved : goal.loop-row-preserved
loop-row-preserved c = below_next (imprecise_rules (map row_of c.args.licenses.now) (map imprecise_of c.args.rows.now)) c.loop-row.row _ c.loop-row.invariant c.in-None.ensures
