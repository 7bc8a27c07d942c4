use Rattle.std.proofs.Common.{◌≡◌}
use Rattle.spdx_hints.specs.Phrase as spec
use Rattle.spdx_hints.proofs.around.end_from.Given as goal

abbrev pub invariant-loop-at : goal.invariant-loop-at
invariant-loop-at l = spec.end_from l.text l.at ≡ spec.end_from l.text l.fn.from
