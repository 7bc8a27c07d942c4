use Rattle.std.proofs.Common.{map, take}
use Rattle.notice_texts.specs.Entries.{entry_of, HasEach}
use Rattle.notice_texts.proofs.keyed.holders_by_key.Given as goal

abbrev pub invariant-loop-one : goal.invariant-loop-one
invariant-loop-one l = HasEach l.holders (map entry_of (take l.one-index l.keyed))
