use Rattle.std.proofs.Common.{take}
use Rattle.std.specs.List.{AllZip}
use Rattle.notice_told.specs.Texts.{IsOwnTextOf}
use Rattle.notice_told.proofs.texts.own_texts.Given as goal

abbrev pub invariant-loop-one : goal.invariant-loop-one
invariant-loop-one l = AllZip IsOwnTextOf (take l.one-index l.shared) l.texts.items
