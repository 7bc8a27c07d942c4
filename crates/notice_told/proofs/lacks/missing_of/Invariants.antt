use Rattle.std.proofs.Common.{◌≡◌, map, not, take}
use Rattle.std.specs.Prelude.{filter}
use Rattle.notice_told.specs.Lacks.{Lacked, is_held, seen_lack}
use Rattle.notice_told.proofs.lacks.missing_of.Given as goal

abbrev pub invariant-loop-lack : goal.invariant-loop-lack
invariant-loop-lack l =
    map seen_lack l.missing.items ≡ filter (λ (k : Lacked). not (is_held l.held k.text)) (map seen_lack (take l.lack-index l.lacks))
