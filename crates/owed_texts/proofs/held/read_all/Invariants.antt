use Rattle.std.proofs.Common.{map, take}
use Rattle.owed_texts.specs.Held.{AreHeld, name_in}
use Rattle.owed_texts.proofs.held.read_all.Given as goal

abbrev pub invariant-loop-name : goal.invariant-loop-name
invariant-loop-name g l = AreHeld (g.S.Shelf.told l.shelf) l.folder (map name_in (take l.name-index l.names)) l.held
