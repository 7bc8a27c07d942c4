use Rattle.std.proofs.Common.{refl}
use Rattle.spdx_gate.proofs.Rows.{one_more}
use Rattle.spdx_gate.proofs.report.judge.Goals as goal

pub loop-asked-preserved : goal.loop-asked-preserved
loop-asked-preserved c = record {
  report = one_more c.args.catalogue.now c.args.policy.now c.args.packages.now c.loop-asked.asked-index c.loop-asked.judgements.items c.row_of.new.judgements.items c.loop-asked.rows.items c.push.new.self.items _ _ c.in_ok-row.row
      c.loop-asked.invariant.report c.loop-asked-test.true refl c.in_ok-row.ensures.adds c.in_ok-row.ensures.row c.in_ok-push.ensures.items;
  index = c.in_ok-row.ensures.index;
}
