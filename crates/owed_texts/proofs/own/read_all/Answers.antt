use Rattle.std.proofs.Common.{refl}
use Rattle.notice_texts.specs.Owed.{seen}
use Rattle.owed_texts.proofs.FilesRead.{none_read}
use Rattle.owed_texts.specs.Own.{AreRead}
use Rattle.package_items.proofs.Each.{next}
use Rattle.owed_texts.proofs.own.read_all.Goals as goal

pub loop-file-preserved : goal.loop-file-preserved
loop-file-preserved g c =
    next (AreRead (g.S.Shelf.told c.args.shelf.now) c.args.plain c.args.name.now c.args.home.now) seen c.args.files.now c.loop-file.file-index _ _ c.loop-file.own c.add.new.own
    c.loop-file.invariant c.loop-file-test.true refl c.in_ok-add.ensures

pub loop-file-init : goal.loop-file-init
loop-file-init g c = none_read (g.S.Shelf.told c.args.shelf.now) c.args.plain c.args.name.now c.args.home.now _ c.new.ensures.items c.new-2.ensures.items
