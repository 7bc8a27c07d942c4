use Rattle.std.proofs.Common.{◌≡◌, ◌++◌, length}
use Rattle.check_sources.specs.Decoding.{units_in}
use Rattle.check_sources.proofs.decoding.units_in.Given as goal

abbrev pub invariant-loop-rest : goal.invariant-loop-rest
invariant-loop-rest l = units_in l.is_little l.initial.bytes ≡ l.units.items ++ units_in l.is_little l.rest

abbrev pub decreases-loop-rest : goal.decreases-loop-rest
decreases-loop-rest l = length l.rest
