use Rattle.std.proofs.Common.{arith, ◌<◌, length, map, take, sym, subst}
use Rattle.notice_texts.specs.Sets.{Has}
use Rattle.notice_texts.proofs.LackLaws.{text_of, texts_more, has-insert}
use Rattle.notice_texts.proofs.lacking.set_of.Goals as goal

pub loop-name-preserved : goal.loop-name-preserved
loop-name-preserved c =
    let all = c.args.names.now in
    let i = c.loop-name.name-index in
    let lt : i < length all = omega arith in
    subst (Has c.insert.new.self) (sym (texts_more all i _ lt)) (has-insert c.loop-name.set c.insert.new.self (map text_of (take i all)) _ c.loop-name.invariant c.in_ok-insert.ensures.updates)
