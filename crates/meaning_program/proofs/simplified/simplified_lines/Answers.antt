use Rattle.std.proofs.Common.{map}
use Rattle.meaning_program.specs.Simplified.{answer_of, told_of}
use Rattle.meaning_program.proofs.Lining.{next}
use Rattle.meaning_program.proofs.simplified.simplified_lines.Goals as goal

pub loop-index-preserved : goal.loop-index-preserved
loop-index-preserved c =
    let old = c.loop-index.simplified in
    let new = c.put_answer.new.simplified in
    next c.args.catalogue.now c.args.is_lax c.args.lines.now c.loop-index.index _ old.text.items new.text.items (map told_of old.unmeant.items) (map told_of new.unmeant.items)
    c.trimmed-line.result.now (answer_of c.in_ok-answer.answer) c.loop-index-test.true c.loop-index.invariant c.trimmed-line.ensures c.in_ok-answer.ensures c.in_ok-put_answer.ensures.text c.in_ok-put_answer.ensures.told
