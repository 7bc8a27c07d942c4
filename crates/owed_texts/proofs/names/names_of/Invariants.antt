use Rattle.std.proofs.Common.{◌≡◌, map, take}
use Rattle.std.specs.Prelude.{string_bytes}
use Rattle.shelves.specs.Shelf.{entry_of}
use Rattle.owed_texts.specs.Names.{names_in}
use Rattle.owed_texts.proofs.names.names_of.Given as goal

abbrev pub invariant-loop-entry : goal.invariant-loop-entry
invariant-loop-entry l = map string_bytes l.names.items ≡ names_in (map entry_of (take l.entry-index l.entries))
