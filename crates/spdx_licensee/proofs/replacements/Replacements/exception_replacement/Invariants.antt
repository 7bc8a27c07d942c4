use Rattle.std.proofs.Common.{◌≡◌, map, drop}
use Rattle.spdx_requirement.specs.Ids.{exception_row}
use Rattle.spdx_licensee.specs.Replacements.{exception_replacement}
use Rattle.spdx_licensee.specs.Shown.{replacement_shown}
use Rattle.spdx_licensee.proofs.replacements.Replacements.exception_replacement.Given as goal

abbrev pub invariant-loop-row : goal.invariant-loop-row
invariant-loop-row l = exception_replacement (map replacement_shown (drop l.row-index l.row-items)) (exception_row l.id) ≡ exception_replacement (map replacement_shown l.row-items) (exception_row l.id)
