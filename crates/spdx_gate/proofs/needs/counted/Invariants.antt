use Rattle.std.proofs.Common.{◌≡◌, map, take}
use Rattle.spdx_gate.specs.Counts.{count_in}
use Rattle.spdx_gate.specs.Needs.{need_entry, need_packages, texts_of}
use Rattle.spdx_gate.proofs.needs.counted.Given as goal

abbrev pub invariant-loop-entry : goal.invariant-loop-entry
invariant-loop-entry l =
    (map need_entry l.needs.items ≡ texts_of (take l.entry-index l.entries))
    × (map need_packages l.needs.items ≡ map (count_in l.packages) (texts_of (take l.entry-index l.entries)))
