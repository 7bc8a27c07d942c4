use Rattle.std.proofs.Common.{◌≡◌, map, take}
use Rattle.notice_texts.specs.Lacking as spec
use Rattle.notice_texts.proofs.LackLaws.{text_of}
use Rattle.notice_texts.proofs.lacking.unused.Given as goal

abbrev pub invariant-loop-file : goal.invariant-loop-file
invariant-loop-file l = map text_of l.unused.items ≡ spec.unused (map text_of l.used) (map text_of (take l.file-index l.files))
