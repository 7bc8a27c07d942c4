use Rattle.std.proofs.Common.{map, take}
use Rattle.spdx_policy.specs.Meant.{Each, IsClarified}
use Rattle.spdx_policy.specs.Drawn.{clarify_row}
use Rattle.spdx_policy.specs.Shown.{scope_row}
use Rattle.spdx_policy.proofs.reading.clarified_of.Given as goal

abbrev pub invariant-loop-index : goal.invariant-loop-index
invariant-loop-index l = Each IsClarified (map clarify_row (take l.index l.clarifications)) (map scope_row l.scopes.items)
