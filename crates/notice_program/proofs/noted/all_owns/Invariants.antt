use Rattle.std.proofs.Common.{◌≡◌, map, take}
use Rattle.owed_texts.specs.All.{reads_in}
use Rattle.notice_program.specs.Noted.{owns_by}
use Rattle.notice_program.proofs.noted.all_owns.Given as goal

abbrev pub invariant-loop-files : goal.invariant-loop-files
invariant-loop-files l = map owns_by l.all.items ≡ reads_in (take l.files-index l.read)
