use Rattle.std.proofs.Common.{◌≡◌, map, take, string_bytes}
use Rattle.spdx_gate.specs.Advising.{offered_texts}
use Rattle.spdx_gate.proofs.advice.texts_at.Given as goal

abbrev pub invariant-loop-number : goal.invariant-loop-number
invariant-loop-number l = map string_bytes l.texts.items ≡ offered_texts l.offers (take l.number-index l.numbers)
