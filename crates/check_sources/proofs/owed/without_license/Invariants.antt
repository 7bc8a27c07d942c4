use Rattle.std.proofs.Common.{◌≡◌, map, string_bytes, take}
use Rattle.check_sources.specs.Owed.{bare_at, whole_of}
use Rattle.check_sources.proofs.owed.without_license.Given as goal

abbrev pub invariant-loop-path : goal.invariant-loop-path
invariant-loop-path l = map whole_of l.wholes.items ≡ map bare_at (map string_bytes (take l.path-index l.paths))
