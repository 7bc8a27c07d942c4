use Rattle.std.proofs.Common.{◌≡◌, map, take}
use Rattle.notice_texts.specs.Shared.{own}
use Rattle.notice_texts.specs.Entries.{entry, entry_of}
use Rattle.notice_texts.proofs.keyed.with_keys.Given as goal

abbrev pub invariant-loop-text : goal.invariant-loop-text
invariant-loop-text l = map entry_of l.keyed.items ≡ map entry (map own (take l.text-index l.texts))
