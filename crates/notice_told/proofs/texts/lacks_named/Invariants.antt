use Rattle.std.proofs.Common.{◌≡◌, map, take}
use Rattle.std.specs.Prelude.{bytes_eq, filter}
use Rattle.notice_told.specs.Lacks.{Lacked, seen_lack}
use Rattle.notice_told.proofs.texts.lacks_named.Given as goal

abbrev pub invariant-loop-lack : goal.invariant-loop-lack
invariant-loop-lack l =
    map seen_lack l.those.items ≡ filter (λ (k : Lacked). bytes_eq k.text l.name) (map seen_lack (take l.lack-index l.lacks))
