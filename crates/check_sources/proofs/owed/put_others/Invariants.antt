use Rattle.std.proofs.Common.{◌≡◌, ◌++◌, map, take}
use Rattle.check_sources.specs.Owed.{others_text, whole_of}
use Rattle.check_sources.proofs.owed.put_others.Given as goal

abbrev pub invariant-loop-whole : goal.invariant-loop-whole
invariant-loop-whole l = l.text.items
    ≡ l.initial.text.items ++ others_text l.format (map whole_of (take l.whole-index l.wholes))
