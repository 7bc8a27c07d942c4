use Rattle.std.proofs.Common.{map, take}
use Rattle.spdx_policy.specs.Meant.{Each, IsExempting}
use Rattle.spdx_policy.specs.Drawn.{exception_row}
use Rattle.spdx_policy.specs.PolicyModel.{named_rows}
use Rattle.spdx_policy.proofs.reading.exempting_of.Given as goal

abbrev pub invariant-loop-index : goal.invariant-loop-index
invariant-loop-index l = Each (IsExempting l.catalogue l.replacements) (map exception_row (take l.index l.exceptions)) (map named_rows l.lists.items)
