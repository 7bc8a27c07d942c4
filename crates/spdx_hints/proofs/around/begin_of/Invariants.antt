use Rattle.std.proofs.Common.{◌≡◌, ◌≤◌, length}
use Rattle.spdx_hints.specs.Phrase as spec
use Rattle.spdx_hints.proofs.around.begin_of.Given as goal

abbrev pub invariant-loop-at : goal.invariant-loop-at
invariant-loop-at l = (l.at ≤ length l.text) × (spec.last_break l.text l.at ≡ spec.last_break l.text l.initial.at)

abbrev pub decreases-loop-at : goal.decreases-loop-at
decreases-loop-at l = l.at
