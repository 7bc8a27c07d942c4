use Rattle.std.proofs.Common.{refl}
use Rattle.spdx_licensee.specs.LicenseeText.{Names}
use Rattle.choice_program.specs.Licensees.{name_in}
use Rattle.choice_program.proofs.Naming.{one_more}
use Rattle.choice_program.proofs.licensees.licensees_of.Goals as goal

pub loop-name-preserved : goal.loop-name-preserved
loop-name-preserved c =
    one_more (Names c.args.catalogue.now) name_in c.args.names.now c.loop-name.name-index _ _ c.loop-name.licensees.items c.push.new.self.items c.in_ok-licensee.licensee
    c.loop-name.invariant c.loop-name-test.true refl c.in_ok-licensee.ensures.ok c.in_ok-push.ensures.items
