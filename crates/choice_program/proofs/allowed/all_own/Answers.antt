use Rattle.choice_program.proofs.Owning.{next_own, none_yet, whole_own}
use Rattle.choice_program.proofs.allowed.all_own.Goals as goal

pub loop-number-init : goal.loop-number-init
loop-number-init c d p on = none_yet d p (record { own = c.new.result; lacking = c.new-2.result }) c.new.ensures.items c.new-2.ensures.items

pub loop-number-preserved : goal.loop-number-preserved
loop-number-preserved c =
    next_own c.args.report.now c.args.packages.now c.loop-number.number c.index-packages-number.result c.index-packages-number.result _ c.loop-number.all c.add_own.new.all
    c.loop-number.invariant c.loop-number-test.true c.index-packages-number.is c.judgement_at.ensures c.in_ok-add_own.ensures

pub returns : goal.returns
returns c = whole_own c.args.report.now c.args.packages.now c.loop-number.number c.loop-number.all c.loop-number-test.false c.loop-number.invariant
