use Rattle.std.proofs.Common.{map, refl}
use Rattle.notice_told.specs.Lacks.{seen_lack}
use Rattle.notice_told.specs.Texts.{IsGeneralTextOf}
use Rattle.notice_told.proofs.Zips.{one_more}
use Rattle.notice_told.proofs.texts.general_texts.Goals as goal

pub loop-one-preserved : goal.loop-one-preserved
loop-one-preserved c =
    one_more (IsGeneralTextOf c.args.are_marked (map seen_lack c.args.lacks.now)) c.args.general.now c.loop-one.one-index _ _ c.loop-one.texts.items c.push.new.self.items c.in_ok-general_text.field-0
    c.loop-one.invariant c.loop-one-test.true refl c.in_ok-general_text.ensures c.in_ok-push.ensures.items
