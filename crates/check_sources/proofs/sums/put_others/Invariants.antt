use Rattle.std.proofs.Common.{◌≡◌, ◌++◌, map, string_bytes, take}
use Rattle.check_sources.specs.Sums.{other_paths}
use Rattle.check_sources.proofs.sums.put_others.Given as goal

abbrev pub invariant-loop-path : goal.invariant-loop-path
invariant-loop-path l =
    l.text.items ≡ l.initial.text.items ++ other_paths (map string_bytes (take l.path-index l.paths))
