use Rattle.std.proofs.Common.{◌≡◌, map, take}
use Rattle.owed_texts.specs.Own.{read_of}
use Rattle.notice_program.specs.Noted.{own_by}
use Rattle.notice_program.proofs.noted.owns_of.Given as goal

abbrev pub invariant-loop-file : goal.invariant-loop-file
invariant-loop-file l = map own_by l.own.items ≡ map read_of (take l.file-index l.files)
