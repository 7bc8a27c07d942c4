use Rattle.std.proofs.Common.{map, take}
use Rattle.notice_texts.specs.Owed.{seen}
use Rattle.owed_texts.specs.Own.{AreRead}
use Rattle.owed_texts.proofs.own.read_all.Given as goal

abbrev pub invariant-loop-file : goal.invariant-loop-file
invariant-loop-file g l = AreRead (g.S.Shelf.told l.shelf) l.plain l.name l.home (map seen (take l.file-index l.files)) l.own
