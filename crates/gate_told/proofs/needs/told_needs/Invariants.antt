use Rattle.std.proofs.Common.{◌≡◌, map, take}
use Rattle.spdx_gate.specs.Needs.{need_entry, need_packages}
use Rattle.gate_told.specs.Needs.{told_needed, told_packages}
use Rattle.gate_told.proofs.needs.told_needs.Given as goal

abbrev pub invariant-loop-need : goal.invariant-loop-need
invariant-loop-need l = record {
  entries : map told_needed l.needs.items ≡ map need_entry (take l.need-index l.needed);
  packages : map told_packages l.needs.items ≡ map need_packages (take l.need-index l.needed);
}
