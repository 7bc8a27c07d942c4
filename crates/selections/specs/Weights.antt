-- Members with weights, of which the chosen ones are to reach a goal.
use Rattle.std.specs.Prelude.{◌≡◌, ℕ, ◌+◌, ◌≤◌, cond, Bool, true, false, List, [], ◌∷◌, nat_le}
use Rattle.std.proofs.Common.{arith, refl}
use Rattle.std.proofs.lemmas.Bool.Decides.{nat_tests}
use Rattle.selections.specs.Selection.{IsWithin}

-- the sum of the weights of the chosen members
abbrev pub chosen_sum : List ℕ → List Bool → ℕ
chosen_sum [] bs = 0
chosen_sum (w ∷ ws) [] = 0
chosen_sum (w ∷ ws) (b ∷ bs) = cond b w 0 + chosen_sum ws bs

-- a larger selection weighs no less
pub chosen_sum_grows : (ws : List ℕ) (some more : List Bool) → IsWithin some more →
    chosen_sum ws some ≤ chosen_sum ws more
chosen_sum_grows [] some more h = omega arith
chosen_sum_grows (w ∷ ws) [] [] h = omega arith
chosen_sum_grows (w ∷ ws) [] (b ∷ ys) h = absurd h
chosen_sum_grows (w ∷ ws) (a ∷ xs) [] h = absurd h
chosen_sum_grows (w ∷ ws) (false ∷ xs) (b ∷ ys) h = let rest = chosen_sum_grows ws xs ys h.1 in elim b as (λ (z : Bool). chosen_sum (w ∷ ws) (false ∷ xs) ≤ chosen_sum (w ∷ ws) (z ∷ ys)) [ true ↦ omega (arith, rest) | false ↦ omega (arith, rest) ]
chosen_sum_grows (w ∷ ws) (true ∷ xs) (true ∷ ys) h = omega (arith, chosen_sum_grows ws xs ys h.1)
chosen_sum_grows (w ∷ ws) (true ∷ xs) (false ∷ ys) h = let e : false ≡ true = h.0 refl in absurd cc

-- so a goal that is reached stays reached
pub enough_grows : (goal : ℕ) (ws : List ℕ) (some more : List Bool) → IsWithin some more →
    nat_le goal (chosen_sum ws some) ≡ true → nat_le goal (chosen_sum ws more) ≡ true
enough_grows goal ws some more h e = let grown = chosen_sum_grows ws some more h in grind (arith, nat_tests, grown, e)
