use Rattle.std.proofs.Common.{◌≡◌, ◌==◌, ℕ, take}
use Rattle.std.specs.Prelude.{◌||◌}
use Rattle.std.specs.List.{list_any}
use Rattle.spdx_gate.specs.Used.{has_number}
use Rattle.spdx_gate.proofs.uses.add_all.Given as goal

abbrev pub invariant-loop-number : goal.invariant-loop-number
invariant-loop-number l =
    (n : ℕ) → has_number l.numbers n ≡ (has_number l.initial.numbers n || list_any (λ k. k == n) (take l.number-index l.more))
