use Rattle.std.proofs.Common.{◌≡◌, ◌++◌, map, drop, flat_map, string_bytes}
use Rattle.shelves.specs.Shelf.{entry_of}
use Rattle.spdx_commands.specs.Beside.{left_at}
use Rattle.spdx_commands.proofs.beside.left_among.Given as goal

abbrev pub invariant-loop-entry : goal.invariant-loop-entry
invariant-loop-entry l =
    map string_bytes l.left.items
    ++ flat_map (left_at l.folder) (map entry_of (drop l.entry-index l.named))
    ≡ flat_map (left_at l.folder) (map entry_of l.named)
