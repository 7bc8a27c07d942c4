use Rattle.std.proofs.Common.{List}
use Rattle.package_items.proofs.Each.{next}
use Rattle.owed_texts.specs.declared.all.AllOwn.{AllOwn}
use Rattle.owed_texts.specs.All.{AreAllOwn, reads_in}
use Rattle.owed_texts.specs.Own.{Owner, owner_of}
use Rattle.owed_texts.proofs.AllRead.{none_yet}
use Rattle.owed_texts.proofs.all.all_own_files.Goals as goal

pub loop-one-preserved : goal.loop-one-preserved
loop-one-preserved g c =
    next (λ (xs : List Owner) (all : AllOwn). AreAllOwn (g.S.Shelf.told c.args.shelf.now) c.args.reading xs (reads_in all.files.items) all.lacking.items) owner_of c.args.placed.now c.loop-one.one-index _ c.one-item.result
    c.loop-one.all c.add.new.all c.loop-one.invariant c.loop-one-test.true c.one-item.is c.in_ok-add.ensures

pub loop-one-init : goal.loop-one-init
loop-one-init g c = none_yet (g.S.Shelf.told c.args.shelf.now) c.args.reading (record { files = c.new.result; lacking = c.new-2.result }) c.new.ensures.items c.new-2.ensures.items
