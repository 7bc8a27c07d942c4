use Rattle.std.proofs.Common.{◌≡◌, ◌++◌, map, flat_map, string_bytes}
use Rattle.std.specs.List.{range_with_len}
use Rattle.gate_told.specs.Unused.{unused_clarification}
use Rattle.gate_told.proofs.unused.add_clarifications.Given as goal

abbrev pub invariant-loop-table : goal.invariant-loop-table
invariant-loop-table l =
    map string_bytes l.unused.items ≡ map string_bytes l.initial.unused.items ++ flat_map (unused_clarification l.policy l.uses) (range_with_len 0 l.table)
