use Rattle.std.proofs.Common.{◌≡◌, map, take}
use Rattle.spdx_licensee.specs.Shown.{replaced_name}
use Rattle.spdx_list.specs.Shown.{shown_replacement}
use Rattle.gate_program.specs.Policy.{replaced_name_of}
use Rattle.gate_program.proofs.policy.replaced_names_in.Given as goal

abbrev pub invariant-loop-row : goal.invariant-loop-row
invariant-loop-row l = map replaced_name l.all.items ≡ map replaced_name_of (map shown_replacement (take l.row-index l.rows))
