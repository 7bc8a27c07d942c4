use Rattle.std.proofs.Common.{◌≡◌, drop}
use Rattle.spdx_minimize.specs.Places.{any_at}
use Rattle.spdx_minimize.proofs.judge.is_any_chosen.Given as goal

abbrev pub invariant-loop-place : goal.invariant-loop-place
invariant-loop-place l = any_at l.selection (drop l.place-index l.places) ≡ any_at l.selection l.places
