use Rattle.std.proofs.Common.{◌≡◌, map, take}
use Rattle.notice_texts.specs.Lacking as spec
use Rattle.notice_texts.proofs.LackLaws.{text_of}
use Rattle.notice_texts.proofs.lacking.missing.Given as goal

abbrev pub invariant-loop-name : goal.invariant-loop-name
invariant-loop-name l = map text_of l.missing.items ≡ spec.without_text (map text_of l.files) (map text_of (take l.name-index l.names))
