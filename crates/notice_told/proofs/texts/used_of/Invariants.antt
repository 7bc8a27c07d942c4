use Rattle.std.proofs.Common.{◌≡◌, map, take}
use Rattle.std.specs.Prelude.{filter}
use Rattle.notice_told.specs.declared.lacks.GeneralText.{GeneralText}
use Rattle.notice_told.specs.Lacks.{seen_lack}
use Rattle.notice_told.specs.Texts.{is_lacked}
use Rattle.notice_told.proofs.texts.used_of.Given as goal

abbrev pub invariant-loop-text : goal.invariant-loop-text
invariant-loop-text l =
    l.used.items ≡ filter (λ (g : GeneralText). is_lacked (map seen_lack l.lacks) g.name.now) (take l.text-index l.general)
