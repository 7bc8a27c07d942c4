use Rattle.std.proofs.Common.{◌≡◌, ◌++◌, map, drop, flat_map}
use Rattle.shelves.specs.Shelf.{entry_of}
use Rattle.source_trees.specs.Stops.{shown_stop, stop_in}
use Rattle.source_trees.proofs.stops.looked_at.Given as goal

abbrev pub invariant-loop-entry : goal.invariant-loop-entry
invariant-loop-entry l =
    map shown_stop l.stops.items
    ++ flat_map (stop_in l.folder l.has_cargo) (map entry_of (drop l.entry-index l.entries))
    ≡ flat_map (stop_in l.folder l.has_cargo) (map entry_of l.entries)
