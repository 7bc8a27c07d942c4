use Rattle.std.proofs.Common.{◌≡◌, ◌++◌, string_bytes}
use Rattle.test_rows.specs.Short as spec
use Rattle.test_rows.proofs.short.put_names.Given as goal

abbrev pub invariant-loop-i : goal.invariant-loop-i
invariant-loop-i l =
    string_bytes l.whole ≡ string_bytes l.initial.whole
    ++ spec.names l.i l.name l.between
