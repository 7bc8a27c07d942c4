use Rattle.std.proofs.Common.{◌≡◌, ℕ, List, map, take}
use Rattle.notice_texts.specs.Lacking as spec
use Rattle.notice_texts.proofs.LackLaws.{text_of}
use Rattle.notice_texts.proofs.lacking.names_held.Given as goal

abbrev pub invariant-loop-file : goal.invariant-loop-file
invariant-loop-file l = (name : List ℕ) → spec.is_among (map text_of l.names.items) name ≡ spec.has_text (map text_of (take l.file-index l.files)) name
