-- Answers that are remembered with their lines.
use Rattle.std.specs.Prelude.{◌≡◌, true, List, [], All}
use Rattle.line_engine.specs.Rule.{Rule}
use Rattle.spdx_lines.specs.declared.remembered.Slot.{Slot}

-- a slot that is used holds what the rule says of its line, as if no line stood before it
abbrev pub IsAnswer : Rule → Slot → Type 0
IsAnswer rule slot =
    slot.is_used ≡ true →
    (slot.answer.items ≡ rule.text [] slot.line.items) ×
    (slot.is_refused ≡ rule.refuses slot.line.items)

abbrev pub AreAnswers : Rule → List Slot → Type 0
AreAnswers rule slots = All (IsAnswer rule) slots
