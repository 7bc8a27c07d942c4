use Rattle.std.proofs.Common.{◌≡◌, map, take, flat_map}
use Rattle.notice_told.specs.Lacks.{lacks_of, seen_lack}
use Rattle.notice_told.proofs.lacks.all_lacks.Given as goal

abbrev pub invariant-loop-one : goal.invariant-loop-one
invariant-loop-one l = map seen_lack l.lacks.items ≡ flat_map lacks_of (take l.one-index l.packages)
