use Rattle.std.proofs.Common.{◌≡◌, length}
use Rattle.package_sources.specs.Pointer.{is_escaped}
use Rattle.package_sources.proofs.pointer.is_escaped.Given as goal

abbrev pub invariant-loop-rest : goal.invariant-loop-rest
invariant-loop-rest l = is_escaped l.rest ≡ is_escaped l.bytes

abbrev pub decreases-loop-rest : goal.decreases-loop-rest
decreases-loop-rest l = length l.rest
