use Rattle.std.proofs.Common.{◌≡◌, ◌+◌, drop}
use Rattle.license_tags.specs.Tags.{closing_place}
use Rattle.license_tags.proofs.closing_place.Given as goal

abbrev pub invariant-loop-i : goal.invariant-loop-i
invariant-loop-i l = closing_place l.comment l.bytes ≡ l.i + closing_place l.comment (drop l.i l.bytes)
