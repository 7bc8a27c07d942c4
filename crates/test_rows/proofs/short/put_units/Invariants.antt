use Rattle.std.proofs.Common.{◌≡◌, ◌++◌, string_bytes}
use Rattle.test_rows.specs.Short as spec
use Rattle.test_rows.proofs.short.put_units.Given as goal

abbrev pub invariant-loop : goal.invariant-loop
invariant-loop l =
    string_bytes l.whole ≡ string_bytes l.initial.whole ++ spec.units l.counter l.unit
