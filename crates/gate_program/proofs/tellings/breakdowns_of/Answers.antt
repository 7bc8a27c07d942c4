use Rattle.gate_program.specs.Tellings.{IsBreakdownOf}
use Rattle.gate_program.proofs.Zips.{one_more}
use Rattle.gate_program.proofs.tellings.breakdowns_of.Goals as goal

pub loop-one-preserved : goal.loop-one-preserved
loop-one-preserved c =
    one_more IsBreakdownOf c.args.all.now c.loop-one.one-index c.one-item.result c.one-item.result c.loop-one.breakdowns.items c.push.new.self.items c.in_ok-of.field-0
    c.loop-one.invariant c.loop-one-test.true c.one-item.is c.in_ok-of.ensures.exact c.in_ok-push.ensures.items
