use Rattle.std.proofs.Common.{arith, sym, ◌≤◌, ◌+◌, length, map}
use Rattle.spdx_catalogue.specs.RowChecks.{rules_at}
use Rattle.spdx_catalogue.proofs.First.{below_next, below_more}
use Rattle.spdx_catalogue.proofs.checks.rows_fault.Goals as goal

pub returns-in-Some : goal.returns-in-Some
returns-in-Some g c =
    let f = rules_at g.R.Row.name_of g.R.Row.rules (map g.R.Row.shown c.args.rows.now) in
    let le : c.loop-row.row + 1 ≤ length c.args.rows.now = omega arith in
    sym (below_more f (c.loop-row.row + 1) (length c.args.rows.now) c.in-Some.fault le (below_next f c.loop-row.row _ c.loop-row.invariant c.in-Some.ensures))

pub loop-row-preserved : goal.loop-row-preserved
loop-row-preserved g c = below_next (rules_at g.R.Row.name_of g.R.Row.rules (map g.R.Row.shown c.args.rows.now)) c.loop-row.row _ c.loop-row.invariant c.in-None.ensures
