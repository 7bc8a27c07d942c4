use Rattle.std.proofs.Common.{◌≡◌, map, take}
use Rattle.notice_texts.specs.Lacking as spec
use Rattle.notice_texts.specs.Sets.{Has}
use Rattle.notice_texts.proofs.LackLaws.{text_of}
use Rattle.notice_texts.proofs.lacking.first_names.Given as goal

abbrev pub invariant-loop-name : goal.invariant-loop-name
invariant-loop-name l = (Has l.met (map text_of (take l.name-index l.used))) × (map text_of l.names.items ≡ spec.first_names (map text_of (take l.name-index l.used)))
