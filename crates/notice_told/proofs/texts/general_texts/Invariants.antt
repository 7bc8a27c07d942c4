use Rattle.std.proofs.Common.{map, take}
use Rattle.std.specs.List.{AllZip}
use Rattle.notice_told.specs.Lacks.{seen_lack}
use Rattle.notice_told.specs.Texts.{IsGeneralTextOf}
use Rattle.notice_told.proofs.texts.general_texts.Given as goal

abbrev pub invariant-loop-one : goal.invariant-loop-one
invariant-loop-one l = AllZip (IsGeneralTextOf l.are_marked (map seen_lack l.lacks)) (take l.one-index l.general) l.texts.items
