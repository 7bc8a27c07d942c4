use Rattle.std.proofs.Common.{◌≡◌, map, take}
use Rattle.owed_texts.specs.Held.{held_of}
use Rattle.notice_program.specs.Noted.{text_by}
use Rattle.notice_program.proofs.noted.general_of.Given as goal

abbrev pub invariant-loop-text : goal.invariant-loop-text
invariant-loop-text l = map text_by l.general.items ≡ map held_of (take l.text-index l.held)
