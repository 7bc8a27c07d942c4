use Rattle.gate_program.specs.Asked.{lent}
use Rattle.choice_program.specs.Among.{AreStated}
use Rattle.package_items.proofs.Each.{next}
use Rattle.choice_program.proofs.Stating.{none_stated}
use Rattle.choice_program.proofs.accepted.all_stated.Goals as goal

pub loop-package-preserved : goal.loop-package-preserved
loop-package-preserved c =
    next (AreStated c.args.catalogue.now c.args.mode) lent c.args.packages.now c.loop-package.package-index _ c.package-item.result c.loop-package.all c.add_stated.new.all
    c.loop-package.invariant c.loop-package-test.true c.package-item.is c.in_ok-add_stated.ensures

pub loop-package-init : goal.loop-package-init
loop-package-init c = none_stated c.args.catalogue.now c.args.mode (record { stated = c.new.result; lacking = c.new-2.result }) c.new.ensures.items c.new-2.ensures.items
