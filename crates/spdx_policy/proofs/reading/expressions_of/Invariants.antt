use Rattle.std.proofs.Common.{◌≡◌, map, take, string_bytes}
use Rattle.spdx_policy.specs.Meant.{expression}
use Rattle.spdx_policy.specs.Drawn.{clarify_row}
use Rattle.spdx_policy.proofs.reading.expressions_of.Given as goal

abbrev pub invariant-loop-clarification : goal.invariant-loop-clarification
invariant-loop-clarification l = map string_bytes l.texts.items ≡ map expression (map clarify_row (take l.clarification-index l.clarifications))
