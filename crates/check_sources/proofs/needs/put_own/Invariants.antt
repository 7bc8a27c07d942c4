use Rattle.std.proofs.Common.{◌≡◌, ◌++◌, filter, map, string_bytes}
use Rattle.check_sources.specs.Needs.{is_own}
use Rattle.check_sources.proofs.needs.put_own.Given as goal

abbrev pub invariant-loop-text : goal.invariant-loop-text
invariant-loop-text l = map string_bytes l.names.items
    ≡ map string_bytes l.initial.names.items ++ filter is_own (map string_bytes l.yielded)
