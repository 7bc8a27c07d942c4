use Rattle.std.proofs.Common.{refl}
use Rattle.package_items.proofs.Each.{next}
use Rattle.owed_texts.specs.Held.{AreHeld, name_in}
use Rattle.owed_texts.proofs.Texts.{none_had}
use Rattle.owed_texts.proofs.held.read_all.Goals as goal

pub loop-name-preserved : goal.loop-name-preserved
loop-name-preserved g c =
    next (AreHeld (g.S.Shelf.told c.args.shelf.now) c.args.folder) name_in c.args.names.now c.loop-name.name-index _ _ c.loop-name.held c.add.new.held
    c.loop-name.invariant c.loop-name-test.true refl c.in_ok-add.ensures

pub loop-name-init : goal.loop-name-init
loop-name-init g c = none_had (g.S.Shelf.told c.args.shelf.now) c.args.folder _ c.new.ensures.items c.new-2.ensures.items
