use Rattle.text_places.proofs.InOrder.{AreInOrder-first}
use Rattle.text_places.proofs.marks.marked.Goals as goal

pub put-requires-clause-within : goal.put-requires-clause-within
put-requires-clause-within c = (AreInOrder-first c.loop-number.offset c.args.spans.now c.loop-number.number _ _ c.loop-number.invariant.in_order c.loop-number-test.true).1
