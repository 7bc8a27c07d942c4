-- The rows of one key among sorted rows lie side by side.
use Rattle.std.proofs.Common.{◌≡◌, ℕ, zero, suc, ◌<◌, Bool, true, false, List, [], ◌∷◌, length, take, drop, Ordering, refl, ap, ◌∙◌, arith}
use Rattle.std.specs.Prelude.{filter, slice_index_or}
use Rattle.std.specs.List.{AllByRecursion, AllWithin}
use Rattle.std.specs.List.Sorted.{IsStrictlySortedBy, IsPartitionedBy}
use Rattle.std.specs.declared.cmp.Ordering.TheVariants.{Less}

skipped : {X : Type 0} (p e : X → Bool) (fails : (x : X) → p x ≡ true → e x ≡ false) (xs : List X) (i : ℕ) → AllWithin (λ y. p y ≡ true) xs 0 i → filter e xs ≡ filter e (drop i xs)
skipped p e fails [] zero h = refl
skipped p e fails [] (suc i) h = refl
skipped p e fails (x ∷ xs) zero h = refl
skipped p e fails (x ∷ xs) (suc i) h =
    let first : e x ≡ false = fails x (h zero x (omega arith) (omega arith)) in
    rw first (skipped p e fails xs i (λ k d l m. h (suc k) d (omega arith) (omega arith)))

none : {X : Type 0} (q e : X → Bool) (fails : (x : X) → q x ≡ false → e x ≡ false) (xs : List X) → AllWithin (λ y. q y ≡ false) xs 0 (length xs) → filter e xs ≡ []
none q e fails [] h = refl
none q e fails (x ∷ xs) h =
    let first : e x ≡ false = fails x (h zero x (omega arith) (omega arith)) in
    rw first (none q e fails xs (λ k d l m. h (suc k) d (omega arith) (omega arith)))

kept : {X : Type 0} (p q e : X → Bool) (fits : (x : X) → p x ≡ false → q x ≡ true → e x ≡ true) (fails : (x : X) → q x ≡ false → e x ≡ false) (xs : List X) (k : ℕ)
    → AllWithin (λ y. p y ≡ false) xs 0 (length xs) → AllWithin (λ y. q y ≡ true) xs 0 k → AllWithin (λ y. q y ≡ false) xs k (length xs) → filter e xs ≡ take k xs
kept p q e fits fails [] zero a b c = refl
kept p q e fits fails [] (suc k) a b c = refl
kept p q e fits fails (x ∷ xs) zero a b c = none q e fails (x ∷ xs) c
kept p q e fits fails (x ∷ xs) (suc k) a b c =
    let first : e x ≡ true = fits x (a zero x (omega arith) (omega arith)) (b zero x (omega arith) (omega arith)) in
    rw first (ap (λ (ys : List _). x ∷ ys) (kept p q e fits fails xs k (λ j d l m. a (suc j) d (omega arith) (omega arith)) (λ j d l m. b (suc j) d (omega arith) (omega arith)) (λ j d l m. c (suc j) d (omega arith) (omega arith))))

dropped : {X : Type 0} (P : X → Type 0) (xs : List X) (i : ℕ) → AllWithin P xs i (length xs) → AllWithin P (drop i xs) 0 (length (drop i xs))
dropped P [] zero h = h
dropped P [] (suc i) h = λ k d l m. absurd (omega (arith, m))
dropped P (x ∷ xs) zero h = h
dropped P (x ∷ xs) (suc i) h = dropped P xs i (λ k d l m. h (suc k) d (omega arith) (omega arith))

-- p holds up to i; from there on q holds for k more; e is what q has and p has not
pub cut : {X : Type 0} (p q e : X → Bool) (before : (x : X) → p x ≡ true → e x ≡ false) (fits : (x : X) → p x ≡ false → q x ≡ true → e x ≡ true) (fails : (x : X) → q x ≡ false → e x ≡ false)
    (xs : List X) (i k : ℕ) → AllWithin (λ y. p y ≡ true) xs 0 i × AllWithin (λ y. p y ≡ false) xs i (length xs)
    → AllWithin (λ y. q y ≡ true) (drop i xs) 0 k × AllWithin (λ y. q y ≡ false) (drop i xs) k (length (drop i xs))
    → filter e xs ≡ take k (drop i xs)
cut p q e before fits fails xs i k a b = skipped p e before xs i a.0 ∙ kept p q e fits fails (drop i xs) k (dropped (λ y. p y ≡ false) xs i a.1) b.0 b.1

-- ---- what is sorted can be cut so

all_at : {X : Type 0} (P : X → Type 0) (xs : List X) (j : ℕ) (d : X) → AllByRecursion P xs → j < length xs → P (slice_index_or xs j d)
all_at P [] j d h l = absurd (omega arith)
all_at P (x ∷ xs) zero d h l = h.0
all_at P (x ∷ xs) (suc j) d h l = all_at P xs j d h.1 (omega arith)

pub parted : {X : Type 0} (R : X → X → Ordering) (p : X → Bool) (closed : (x y : X) → R x y ≡ Less → p y ≡ true → p x ≡ true) (xs : List X) → IsStrictlySortedBy R xs → IsPartitionedBy p xs
unfolding IsStrictlySortedBy
parted R p closed [] s i j d le lt h = absurd (omega (arith, lt))
parted R p closed (x ∷ xs) s zero zero d le lt h = h
parted R p closed (x ∷ xs) s zero (suc j) d le lt h = closed x (slice_index_or xs j d) (all_at (λ y. R x y ≡ Less) xs j d s.0 (omega arith)) h
parted R p closed (x ∷ xs) s (suc i) zero d le lt h = absurd (omega (arith, le))
parted R p closed (x ∷ xs) s (suc i) (suc j) d le lt h = parted R p closed xs s.1 i j d (omega arith) (omega arith) h

pub sorted_drop : {X : Type 0} (R : X → X → Ordering) (i : ℕ) (xs : List X) → IsStrictlySortedBy R xs → IsStrictlySortedBy R (drop i xs)
unfolding IsStrictlySortedBy
sorted_drop R zero [] s = s
sorted_drop R (suc i) [] s = s
sorted_drop R zero (x ∷ xs) s = s
sorted_drop R (suc i) (x ∷ xs) s = sorted_drop R i xs s.1
