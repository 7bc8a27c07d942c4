use Rattle.std.proofs.Common.{◌≡◌, ◌++◌, drop}
use Rattle.spdx_minimize.specs.Places.{places_from}
use Rattle.spdx_why.specs.Least.{numbers_of}
use Rattle.spdx_why.proofs.serving.chosen_numbers.Given as goal

abbrev pub invariant-loop-number : goal.invariant-loop-number
invariant-loop-number l = l.numbers.items ++ places_from (λ b. b) l.number (drop l.number l.selection) ≡ numbers_of l.selection
