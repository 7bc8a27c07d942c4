use Rattle.std.proofs.Common.{map, take}
use Rattle.std.specs.List.{AllZip}
use Rattle.spdx_licensee.specs.Replacements.{IsReplacementOf}
use Rattle.spdx_licensee.specs.Shown.{replaced_name, replacement_shown}
use Rattle.spdx_licensee.proofs.replacements.Replacements.of_rows.Given as goal

abbrev pub invariant-loop-row : goal.invariant-loop-row
invariant-loop-row l = AllZip (IsReplacementOf l.catalogue) (map replaced_name (take l.row-index l.names)) (map replacement_shown l.rows.items)
