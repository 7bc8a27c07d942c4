use Rattle.std.proofs.Common.{◌≡◌, flat_map, take}
use Rattle.gate_told.specs.Told.{leaf_at}
use Rattle.gate_told.proofs.breakdowns.leaves_at.Given as goal

abbrev pub invariant-loop-number : goal.invariant-loop-number
invariant-loop-number l = l.those.items ≡ flat_map (leaf_at l.leaves) (take l.number-index l.numbers)
