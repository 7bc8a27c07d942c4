use Rattle.std.proofs.Common.{map, take}
use Rattle.owed_texts.specs.All.{AreAllOwn, reads_in}
use Rattle.owed_texts.specs.Own.{owner_of}
use Rattle.owed_texts.proofs.all.all_own_files.Given as goal

abbrev pub invariant-loop-one : goal.invariant-loop-one
invariant-loop-one g l = AreAllOwn (g.S.Shelf.told l.shelf) l.reading (map owner_of (take l.one-index l.placed)) (reads_in l.all.files.items) l.all.lacking.items
