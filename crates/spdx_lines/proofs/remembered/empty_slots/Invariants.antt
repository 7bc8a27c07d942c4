use Rattle.line_engine.specs.Rule.{Rule}
use Rattle.spdx_lines.specs.Remembered.{AreAnswers}
use Rattle.spdx_lines.proofs.remembered.empty_slots.Given as goal

abbrev pub invariant-loop : goal.invariant-loop
invariant-loop l = (rule : Rule) → AreAnswers rule l.slots.items
