use Rattle.std.proofs.Common.{◌≡◌, ◌+◌, drop}
use Rattle.text_places.specs.Tags.{through}
use Rattle.text_places.proofs.tags.through.Given as goal

abbrev pub invariant-loop-i : goal.invariant-loop-i
invariant-loop-i l = through l.mark l.text ≡ l.i + through l.mark (drop l.i l.text)
