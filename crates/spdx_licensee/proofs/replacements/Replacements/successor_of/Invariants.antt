use Rattle.std.proofs.Common.{◌≡◌, map, drop}
use Rattle.spdx_requirement.specs.Ids.{id_row}
use Rattle.spdx_licensee.specs.Replacements.{successor_of}
use Rattle.spdx_licensee.specs.Shown.{replacement_shown}
use Rattle.spdx_licensee.proofs.replacements.Replacements.successor_of.Given as goal

abbrev pub invariant-loop-row : goal.invariant-loop-row
invariant-loop-row l = successor_of (map replacement_shown (drop l.row-index l.row-items)) (id_row l.id) ≡ successor_of (map replacement_shown l.row-items) (id_row l.id)
