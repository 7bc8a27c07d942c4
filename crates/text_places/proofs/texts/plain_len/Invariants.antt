use Rattle.std.proofs.Common.{◌≡◌, ◌+◌, drop}
use Rattle.text_places.specs.Texts.{plain_len}
use Rattle.text_places.proofs.texts.plain_len.Given as goal

abbrev pub invariant-loop-i : goal.invariant-loop-i
invariant-loop-i l = plain_len l.grammar l.is_listed l.text ≡ l.i + plain_len l.grammar l.is_listed (drop l.i l.text)
