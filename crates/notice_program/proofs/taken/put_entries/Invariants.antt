use Rattle.std.proofs.Common.{◌≡◌, ◌++◌, map, take}
use Rattle.notice_program.specs.Taken.{entry, entry_of}
use Rattle.notice_program.proofs.taken.put_entries.Given as goal

abbrev pub invariant-loop-listed : goal.invariant-loop-listed
invariant-loop-listed l = map entry_of l.all.items ≡ map entry_of l.initial.all.items ++ map (entry l.file) (take l.listed-index l.file.packages.items)
