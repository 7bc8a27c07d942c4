-- A list that is sorted and then rid of doubles, seen through a view of its elements.
use Rattle.std.proofs.Common.{◌≡◌, ℕ, zero, suc, Bool, true, List, [], ◌∷◌, length, map, Contains, Ordering, refl, sym, ap, ◌∙◌, subst, arith}
use Rattle.std.specs.Cmp.{IsEquivalence}
use Rattle.std.specs.List.{AllByRecursion, dedup}
use Rattle.std.specs.List.Sorted.{IsStrictlySortedBy, IsPermutation}
use Rattle.std.specs.declared.cmp.Ordering.TheVariants.{Less}
use Rattle.std.proofs.lemmas.List.{get_or-map}
use Rattle.std.proofs.lemmas.List.Kept.{Any-dedup, Contains-from_dedup}
use Rattle.std.proofs.lemmas.List.Sorted.{Contains-permutation, IsPermutation-sym}

all_map : {X K : Type 0} (f : X → K) (P : K → Type 0) (xs : List X) → AllByRecursion (λ x. P (f x)) xs → AllByRecursion P (map f xs)
all_map f P [] h = tt
all_map f P (x ∷ xs) h = (h.0, all_map f P xs h.1)

pub sorted_map : {X K : Type 0} (f : X → K) (c : K → K → Ordering) (xs : List X) → IsStrictlySortedBy (λ x y. c (f x) (f y)) xs → IsStrictlySortedBy c (map f xs)
unfolding IsStrictlySortedBy
sorted_map f c [] h = tt
sorted_map f c (x ∷ xs) h = (all_map f (λ y. c (f x) y ≡ Less) xs h.0, sorted_map f c xs h.1)

length_of : {X K : Type 0} (f : X → K) (xs : List X) → length (map f xs) ≡ length xs
length_of f [] = refl
length_of f (x ∷ xs) = ap (λ (n : ℕ). suc n) (length_of f xs)

pub view_of : {X K : Type 0} (f : X → K) (xs : List X) (x : X) → Contains xs x → Contains (map f xs) (f x)
view_of f xs x h = (h.0, omega (arith, length_of f xs, h.1), get_or-map f xs h.0 x (f x) h.1 ∙ ap f h.2)

pub behind_view : {X K : Type 0} (f : X → K) (xs : List X) (k : K) → Contains (map f xs) k → (x : X) × (Contains xs x × (f x ≡ k))
behind_view f [] k h = absurd (omega (arith, h.1))
behind_view f (x ∷ xs) k (zero, low, at) = (x, ((zero, omega arith, refl), at))
behind_view f (x ∷ xs) k (suc i, low, at) =
    let found = behind_view f xs k (i, omega arith, at) in
    (found.0, ((suc found.1.0.0, omega (arith, found.1.0.1), found.1.0.2), found.1.1))

pub kept : {X K : Type 0} (f : X → K) {E : X → X → Bool} (e : IsEquivalence E) (same : (x y : X) → E x y ≡ true → f x ≡ f y) (xs ys : List X) → IsPermutation xs ys → (k : K) → Contains (map f xs) k → Contains (map f (dedup E ys)) k
kept f {E} e same xs ys moved k h =
    let at = behind_view f xs k h in
    let one = Any-dedup e ys at.0 (Contains-permutation xs ys at.0 moved at.1.0) in
    subst (Contains (map f (dedup E ys))) (sym (same at.0 one.1 one.4) ∙ at.1.1) (view_of f (dedup E ys) one.1 (one.0, one.2, one.3))

pub added_none : {X K : Type 0} (f : X → K) (E : X → X → Bool) (xs ys : List X) → IsPermutation xs ys → (k : K) → Contains (map f (dedup E ys)) k → Contains (map f xs) k
added_none f E xs ys moved k h =
    let at = behind_view f (dedup E ys) k h in
    subst (Contains (map f xs)) at.1.1 (view_of f xs at.0 (Contains-permutation ys xs at.0 (IsPermutation-sym xs ys moved) (Contains-from_dedup E ys at.0 at.1.0)))
