use Rattle.owed_texts.specs.Own.{owner_of}
use Rattle.owed_texts.proofs.AllRead.{one_more}
use Rattle.owed_texts.proofs.all.add.Goals as goal

pub returns : goal.returns
returns g c xs before =
    one_more (g.S.Shelf.told c.args.shelf.now) c.args.reading (owner_of c.args.placed) c.in_ok-own.own c.args.all.now (record { files = c.push.new.self; lacking = c.append.new.self }) xs before c.in_ok-own.ensures
    c.in_ok-push.ensures.items c.in_ok-append.ensures.items
