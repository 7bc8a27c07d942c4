use Rattle.std.proofs.Common.{◌≡◌, ◌++◌, string_bytes, flat_map}
use Rattle.package_items.specs.Faults.{shown_char}
use Rattle.spdx_troubles.proofs.line.put_shown.Given as goal

abbrev pub invariant-loop-letter : goal.invariant-loop-letter
invariant-loop-letter l =
    string_bytes l.line ≡ string_bytes l.initial.line ++ flat_map shown_char l.yielded
