use Rattle.std.proofs.Common.{map, take}
use Rattle.spdx_policy.specs.Meant.{Each, IsExempted}
use Rattle.spdx_policy.specs.Drawn.{exception_row}
use Rattle.spdx_policy.specs.Shown.{scope_row}
use Rattle.spdx_policy.proofs.reading.exempted_of.Given as goal

abbrev pub invariant-loop-index : goal.invariant-loop-index
invariant-loop-index l = Each IsExempted (map exception_row (take l.index l.exceptions)) (map scope_row l.scopes.items)
