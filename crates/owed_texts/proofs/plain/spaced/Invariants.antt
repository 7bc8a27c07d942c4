use Rattle.std.proofs.Common.{◌≡◌, ◌++◌, drop}
use Rattle.owed_texts.specs.Plain.{spaced}
use Rattle.owed_texts.proofs.plain.spaced.Given as goal

abbrev pub invariant-loop-place : goal.invariant-loop-place
invariant-loop-place l = l.text.items ++ spaced (drop l.place l.bytes) ≡ spaced l.bytes
