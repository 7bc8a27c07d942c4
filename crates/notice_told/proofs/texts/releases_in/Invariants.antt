use Rattle.std.proofs.Common.{◌≡◌, map, take}
use Rattle.license_notice.specs.Notices.{line_of}
use Rattle.notice_told.specs.Lacks.{Lacked, seen_lack}
use Rattle.notice_told.proofs.texts.releases_in.Given as goal

abbrev pub invariant-loop-lack : goal.invariant-loop-lack
invariant-loop-lack l = map line_of l.releases.items ≡ map (λ (k : Lacked). k.line) (map seen_lack (take l.lack-index l.lacks))
