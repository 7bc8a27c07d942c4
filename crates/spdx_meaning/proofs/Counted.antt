-- How many of some that are in order stand before one: those in front of the first that doesn't.
use Rattle.std.proofs.Common.{◌≡◌, ℕ, ◌+◌, ◌≤◌, zero, suc, Bool, true, false, cond, List, [], ◌∷◌, length, map, refl, sym, ◌∙◌, ap, arith}
use Rattle.std.specs.Prelude.{count_by}
use Rattle.std.specs.List.Sorted.{IsPartitionPoint}
use Rattle.std.proofs.lemmas.List.Sums.{sum_by-cons}

pub count-cons : {X : Type 0} (p : X → Bool) (x : X) (xs : List X) → count_by p (x ∷ xs) ≡ cond (p x) 1 0 + count_by p xs
count-cons p x xs = sum_by-cons (λ z. cond (p z) 1 0) x xs

pub counted : {X : Type 0} (p : X → Bool) (xs : List X) (i : ℕ) → i ≤ length xs → IsPartitionPoint (λ y. p y ≡ true) (λ y. p y ≡ false) xs i → i ≡ count_by p xs
counted p [] zero few point = refl
counted p [] (suc i) few point = absurd (omega (arith, few))
counted p (x ∷ xs) zero few point =
    let first : cond {A = ℕ} (p x) 1 0 ≡ 0 = ap (λ (b : Bool). cond {A = ℕ} b 1 0) (point.1 zero x (omega arith) (omega arith)) in
    let rest = counted p xs zero (omega arith) (λ k d l h. absurd (omega (arith, h)), λ k d l h. point.1 (suc k) d (omega arith) (omega arith)) in
    omega (arith, count-cons p x xs, first, rest)
counted p (x ∷ xs) (suc i) few point =
    let first : cond {A = ℕ} (p x) 1 0 ≡ 1 = ap (λ (b : Bool). cond {A = ℕ} b 1 0) (point.0 zero x (omega arith) (omega arith)) in
    let rest = counted p xs i (omega arith) (λ k d l h. point.0 (suc k) d (omega arith) (omega arith), λ k d l h. point.1 (suc k) d (omega arith) (omega arith)) in
    omega (arith, count-cons p x xs, first, rest)

pub count-map : {X Y : Type 0} (p : Y → Bool) (f : X → Y) (xs : List X) → count_by (λ x. p (f x)) xs ≡ count_by p (map f xs)
count-map p f [] = refl
count-map p f (x ∷ xs) = count-cons (λ y. p (f y)) x xs ∙ ap (λ (n : ℕ). cond (p (f x)) 1 0 + n) (count-map p f xs) ∙ sym (count-cons p (f x) (map f xs))
