use Rattle.std.proofs.Common.{◌≡◌, map, take}
use Rattle.notice_texts.specs.Shared.{shared_of}
use Rattle.notice_texts.specs.Entries.{entry_of, firsts, shared_by, HasRest}
use Rattle.notice_texts.proofs.keyed.shared.Given as goal

abbrev pub invariant-loop-one : goal.invariant-loop-one
invariant-loop-one l = record {
  rest : HasRest l.holders (map entry_of l.keyed) (map entry_of (take l.one-index l.keyed));
  is : map shared_of l.shared.items ≡ map (shared_by (map entry_of l.keyed)) (firsts (map entry_of (take l.one-index l.keyed)));
}
