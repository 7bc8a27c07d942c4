use Rattle.std.proofs.Common.{arith}
use Rattle.spdx_gate.proofs.Counting.{each_once}
use Rattle.spdx_gate.proofs.totals.Totals.of.Goals as goal

pub returns-clause-sum : goal.returns-clause-sum
returns-clause-sum c = omega (arith, each_once c.args.rows.now, c.count_allowed-allowed.ensures, c.count_refused-refused.ensures, c.count_unstated-unstated.ensures)
