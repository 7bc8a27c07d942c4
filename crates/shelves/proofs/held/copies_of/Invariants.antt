use Rattle.std.proofs.Common.{◌≡◌, ◌++◌, map, drop}
use Rattle.shelves.specs.Shelf.{entry_of}
use Rattle.shelves.proofs.held.copies_of.Given as goal

abbrev pub invariant-loop-entry : goal.invariant-loop-entry
invariant-loop-entry l =
    map entry_of l.copies.items ++ map entry_of (drop l.entry-index l.entries) ≡ map entry_of l.entries
