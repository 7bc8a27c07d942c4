use Rattle.std.proofs.Common.{◌≡◌}
use Rattle.spdx_hints.specs.Plain as spec
use Rattle.spdx_hints.proofs.plain.link_place.Given as goal

abbrev pub invariant-loop-at : goal.invariant-loop-at
invariant-loop-at l = spec.link_from l.text l.at ≡ spec.link_from l.text 0
