use Rattle.std.proofs.Common.{◌≡◌, map, take}
use Rattle.notice_program.specs.Taken.{entries_in, entry_of}
use Rattle.notice_program.proofs.taken.all_entries.Given as goal

abbrev pub invariant-loop-file : goal.invariant-loop-file
invariant-loop-file l = map entry_of l.all.items ≡ entries_in (take l.file-index l.files)
