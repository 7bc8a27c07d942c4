use Rattle.notice_told.specs.Texts.{IsOwnTextOf}
use Rattle.notice_told.proofs.Zips.{one_more}
use Rattle.notice_told.proofs.texts.own_texts.Goals as goal

pub loop-one-preserved : goal.loop-one-preserved
loop-one-preserved c =
    one_more IsOwnTextOf c.args.shared.now c.loop-one.one-index c.one-item.result c.one-item.result c.loop-one.texts.items c.push.new.self.items c.in_ok-own_text.field-0
    c.loop-one.invariant c.loop-one-test.true c.one-item.is c.in_ok-own_text.ensures c.in_ok-push.ensures.items
