use Rattle.std.proofs.Common.{◌≡◌, ◌≤◌, length, take}
use Rattle.spdx_catalogue.specs.Names as spec
use Rattle.spdx_catalogue.proofs.names.without_plus.Given as goal

abbrev pub invariant-loop-end : goal.invariant-loop-end
invariant-loop-end l = (l.end ≤ length l.name) × (spec.without_plus (take l.end l.name) ≡ spec.without_plus l.name)

abbrev pub decreases-loop-end : goal.decreases-loop-end
decreases-loop-end l = l.end
