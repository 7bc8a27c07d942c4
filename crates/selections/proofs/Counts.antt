-- How many sets are kept at most.
use Rattle.std.proofs.Common.{◌≡◌, ℕ, ◌+◌, ◌*◌, ◌≤◌, Bool, true, false, cond, List, [], ◌∷◌, ◌++◌, length, map, arith}
use Rattle.std.specs.Prelude.{not, fold}
use Rattle.std.specs.List.{filter}
use Rattle.std.proofs.lemmas.List.{length-append, length-map}
use Rattle.selections.specs.Sets.{includes, includes_some, without, either, with_set, unions, both}

length_kept : {X : Type 0} (t : X → Bool) (xs : List X) → length (filter t xs) ≤ length xs
length_kept t [] = omega arith
length_kept t (x ∷ xs) = step (t x) (length_kept t xs)
  where
    step : (b : Bool) → length (filter t xs) ≤ length xs → length (cond b (x ∷ filter t xs) (filter t xs)) ≤ length (x ∷ xs)
    step true h = omega (arith, h)
    step false h = omega (arith, h)

pub length-either : (ls rs : List (List ℕ)) → length (either ls rs) ≤ length ls + length rs
length-either ls rs =
    let kept = without rs ls in
    omega (arith, length-append kept (without kept rs), length_kept (λ s. not (includes_some rs s)) ls, length_kept (λ s. not (includes_some kept s)) rs)

length_with : (sets : List (List ℕ)) (s : List ℕ) → length (with_set sets s) ≤ length sets + 1
length_with sets s = cases (includes_some sets s)
  where
    left : List (List ℕ)
    left = filter (λ m. not (includes m s)) sets

    cases : (b : Bool) → length (cond b sets (left ++ s ∷ [])) ≤ length sets + 1
    cases true = omega arith
    cases false = omega (arith, length-append left (s ∷ []), length_kept (λ m. not (includes m s)) sets)

length_all : (more sets : List (List ℕ)) → length (fold with_set sets more) ≤ length sets + length more
length_all [] sets = omega arith
length_all (s ∷ more) sets = omega (arith, length_all more (with_set sets s), length_with sets s)

length_unions : (ls rs : List (List ℕ)) → length (unions ls rs) ≡ length ls * length rs
length_unions [] rs = omega arith
length_unions (l ∷ ls) rs =
    omega (arith, length-append (map (λ r. r ++ l) rs) (unions ls rs), length-map rs (λ r. r ++ l), length_unions ls rs)

pub length-both : (ls rs : List (List ℕ)) → length (both ls rs) ≤ length ls * length rs
length-both ls rs = omega (arith, length_all (unions ls rs) [], length_unions ls rs)
