use Rattle.std.proofs.Common.{map, take}
use Rattle.notice_texts.specs.Sets.{Has}
use Rattle.notice_texts.proofs.LackLaws.{text_of}
use Rattle.notice_texts.proofs.lacking.set_of.Given as goal

abbrev pub invariant-loop-name : goal.invariant-loop-name
invariant-loop-name l = Has l.set (map text_of (take l.name-index l.names))
