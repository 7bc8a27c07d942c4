use Rattle.notice_texts.proofs.Holding.{notes}
use Rattle.notice_texts.proofs.keyed.note.Goals as goal

pub returns : goal.returns
returns c =
    notes c.args.holders.now c.take_all-noted.new.holders c.insert.new.self c.args.key.now _ c.args.holder c.take_all-noted.result.items c.take_all-noted.ensures.left c.take_all-noted.ensures.taken c.in_ok-push.ensures.items c.in_ok-insert.ensures.updates
