use Rattle.choice_program.specs.Among.{AreOwn, meant_of}
use Rattle.package_items.proofs.Each.{next}
use Rattle.choice_program.proofs.Stating.{none_own}
use Rattle.choice_program.proofs.accepted.all_own.Goals as goal

pub loop-one-preserved : goal.loop-one-preserved
loop-one-preserved c =
    next (AreOwn c.args.accepted.now) meant_of c.args.stated.now c.loop-one.one-index _ c.one-item.result c.loop-one.own c.add_own.new.own
    c.loop-one.invariant c.loop-one-test.true c.one-item.is c.in_ok-add_own.ensures

pub loop-one-init : goal.loop-one-init
loop-one-init c = none_own c.args.accepted.now (record { choices = c.new.result; lacking = c.new-2.result }) c.new.ensures.items c.new-2.ensures.items
