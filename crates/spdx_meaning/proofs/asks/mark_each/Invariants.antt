use Rattle.std.proofs.Common.{take}
use Rattle.spdx_meaning.specs.Marks.{AreMarked}
use Rattle.spdx_meaning.proofs.asks.mark_each.Given as goal

abbrev pub invariant-loop-number : goal.invariant-loop-number
invariant-loop-number l = AreMarked l.initial.marks (take l.number-index l.numbers) l.mark l.marks
