use Rattle.std.proofs.Common.{ℕ, ◌<◌, get_or}
use Rattle.spdx_gate.specs.Reports.{IsAt}
use Rattle.spdx_gate.proofs.bench.known_place.Given as goal

-- at none of the places so far
abbrev pub invariant-loop-place : goal.invariant-loop-place
invariant-loop-place l = (i : ℕ) → i < l.place-index → IsAt l.judgements l.sought.exceptions.now l.sought.text.now (get_or l.places i 0) → ⊥
