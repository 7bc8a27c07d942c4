use Rattle.std.proofs.Common.{◌≡◌, map, take}
use Rattle.check_sources.specs.Owed.{missing_at, whole_of}
use Rattle.check_sources.proofs.owed.missing_in.Given as goal

abbrev pub invariant-loop-name : goal.invariant-loop-name
invariant-loop-name l = map whole_of l.wholes.items ≡ map (missing_at l.folder) (map (λ t. t.now) (take l.name-index l.names))
