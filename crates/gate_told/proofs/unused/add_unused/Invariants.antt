use Rattle.std.proofs.Common.{◌≡◌, ◌++◌, map, flat_map, string_bytes}
use Rattle.std.specs.List.{range_with_len}
use Rattle.gate_told.specs.Unused.{entry_in, unused_entry}
use Rattle.gate_told.proofs.unused.add_unused.Given as goal

abbrev pub invariant-loop-place : goal.invariant-loop-place
invariant-loop-place l =
    map string_bytes l.unused.items ≡ map string_bytes l.initial.unused.items ++ flat_map (λ place. unused_entry l.policy l.uses (entry_in l.list place)) (range_with_len 0 l.place)
