use Rattle.std.proofs.Common.{◌≡◌, map, take}
use Rattle.notice_told.specs.Lacks.{seen_lack}
use Rattle.notice_program.specs.Told.{lacking_of, missing_by}
use Rattle.notice_program.proofs.told.all_missing.Given as goal

abbrev pub invariant-loop-lack : goal.invariant-loop-lack
invariant-loop-lack l = map missing_by l.all.items ≡ map lacking_of (map seen_lack (take l.lack-index l.lacks))
