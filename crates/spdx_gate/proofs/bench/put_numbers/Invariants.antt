use Rattle.std.proofs.Common.{◌≡◌, ◌++◌, flat_map, string_bytes, drop}
use Rattle.spdx_gate.specs.Benches.{number_key}
use Rattle.spdx_gate.proofs.bench.put_numbers.Given as goal

abbrev pub invariant-loop-number : goal.invariant-loop-number
invariant-loop-number l =
    string_bytes l.key ++ flat_map number_key (drop l.number-index l.numbers) ≡ string_bytes l.initial.key ++ flat_map number_key l.numbers
