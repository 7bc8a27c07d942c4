use Rattle.std.proofs.Common.{◌≡◌, drop}
use Rattle.std.specs.List.{fold}
use Rattle.spdx_catalogue.specs.Index as spec
use Rattle.spdx_catalogue.proofs.index.sum_of_all.Given as goal

abbrev pub invariant-loop-b : goal.invariant-loop-b
invariant-loop-b l = fold spec.mixed l.sum (drop l.b-index l.bytes) ≡ fold spec.mixed 0 l.bytes
