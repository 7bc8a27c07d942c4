-- Among some requirements, ranks are in the order of the requirements.
use Rattle.std.proofs.Common.{◌≡◌, ◌⊎◌, ℕ, ◌+◌, ◌<◌, ◌≤◌, Bool, true, false, ◌||◌, cond, List, [], ◌∷◌, ◌++◌, refl, sym, ◌∙◌, ap, inl, inr, arith}
use Rattle.std.specs.Prelude.{count_by, ◌==◌}
use Rattle.std.specs.List.{list_any, list_all}
use Rattle.std.specs.Ordering.{nat_cmp, is_lt, ordering_reverse}
use Rattle.std.specs.declared.cmp.Ordering.{Ordering}
use Rattle.std.specs.declared.cmp.Ordering.TheVariants.{Less, Equal, Greater}
use Rattle.std.specs.List.Sorted.{IsPermutation}
use Rattle.std.proofs.lemmas.Bool.{eqb-true}
use Rattle.std.proofs.lemmas.List.Sorted.{sum_by-IsPermutation}
use Rattle.std.proofs.lemmas.Cmp.{tied_itself, alike_right}
use Rattle.spdx_requirement.specs.Items.{Requirement}
use Rattle.spdx_requirement.specs.Orders.{requirement_cmp}
use Rattle.selections.proofs.Means.{and_first, and_second}
use Rattle.spdx_meaning.proofs.Order.{requirements_total}
use Rattle.spdx_meaning.specs.Sets.{In, is_before}
use Rattle.spdx_meaning.specs.Ranks.{rank_in}
use Rattle.spdx_meaning.proofs.Counted.{count-cons}
use Rattle.spdx_meaning.proofs.Numbers.{is_less, is_more, is_level}

pub in_first : {X : Type 0} (xs ys : List X) (x : X) → In xs x → In (xs ++ ys) x
in_first (z ∷ zs) ys x h = elim h [ inl e ↦ inl e | inr k ↦ inr (in_first zs ys x k) ]
in_first [] ys x h = absurd h

pub in_second : {X : Type 0} (xs ys : List X) (x : X) → In ys x → In (xs ++ ys) x
in_second [] ys x h = h
in_second (z ∷ zs) ys x h = inr (in_second zs ys x h)

pub all_in : {X : Type 0} (q : X → Bool) (xs : List X) (x : X) → list_all q xs ≡ true → In xs x → q x ≡ true
all_in q [] x e h = absurd h
all_in q (y ∷ ys) x e h = elim h [
  | inl is ↦ ap q (sym is) ∙ and_first (q y) (list_all q ys) e
  | inr k ↦ all_in q ys x (and_second (q y) (list_all q ys) e) k
]

-- ---- counts

more_one : (a b : Bool) → (a ≡ true → b ≡ true) → cond a 1 0 ≤ cond b 1 0
more_one true true h = omega arith
more_one true false h = let bad : false ≡ true = h refl in cc
more_one false true h = omega arith
more_one false false h = omega arith

counts_more : {X : Type 0} (p q : X → Bool) → ((x : X) → p x ≡ true → q x ≡ true) → (xs : List X) → count_by p xs ≤ count_by q xs
counts_more p q h [] = omega arith
counts_more p q h (x ∷ xs) = omega (arith, count-cons p x xs, count-cons q x xs, more_one (p x) (q x) (h x), counts_more p q h xs)

one_less : (a b : Bool) → a ≡ false → b ≡ true → cond a 1 0 < cond b 1 0
one_less true b e k = let bad : true ≡ false = e in cc
one_less false true e k = omega arith
one_less false false e k = let bad : false ≡ true = k in cc

counts_less : {X : Type 0} (p q : X → Bool) → ((x : X) → p x ≡ true → q x ≡ true) → (xs : List X) (x : X) → In xs x → p x ≡ false → q x ≡ true → count_by p xs < count_by q xs
counts_less p q h [] x there out within = absurd there
counts_less p q h (y ∷ ys) x there out within = elim there [
  | inl is ↦ omega (arith, count-cons p y ys, count-cons q y ys, one_less (p y) (q y) (ap p is ∙ out) (ap q is ∙ within), counts_more p q h ys)
  | inr k ↦ omega (arith, count-cons p y ys, count-cons q y ys, more_one (p y) (q y) (h y), counts_less p q h ys x k out within)
]

counts_same : {X : Type 0} (p q : X → Bool) → ((x : X) → p x ≡ q x) → (xs : List X) → count_by p xs ≡ count_by q xs
counts_same p q h [] = refl
counts_same p q h (x ∷ xs) =
    count-cons p x xs
    ∙ ap (λ (b : Bool). cond b 1 0 + count_by p xs) (h x)
    ∙ ap (λ (n : ℕ). cond (q x) 1 0 + n) (counts_same p q h xs)
    ∙ sym (count-cons q x xs)

-- ---- ranks

before_less : (q r s : Requirement) → requirement_cmp r s ≡ Less → is_before requirement_cmp q r ≡ true → is_before requirement_cmp q s ≡ true
before_less q r s e h = ap is_lt (requirements_total.trans q r s (is (requirement_cmp q r) h) e)
  where
    is : (o : Ordering) → is_lt o ≡ true → o ≡ Less
    is Less e = refl
    is Equal e = let bad : false ≡ true = e in cc
    is Greater e = let bad : false ≡ true = e in cc

rank_less : (qs : List Requirement) (r s : Requirement) → In qs r → requirement_cmp r s ≡ Less → rank_in qs r < rank_in qs s
rank_less qs r s there e =
    counts_less (λ q. is_before requirement_cmp q r) (λ q. is_before requirement_cmp q s) (λ q h. before_less q r s e h) qs r there
    (ap is_lt (tied_itself requirements_total r)) (ap is_lt e)

pub rank_same : (qs : List Requirement) (r s : Requirement) → requirement_cmp r s ≡ Equal → rank_in qs r ≡ rank_in qs s
rank_same qs r s e =
    counts_same (λ q. is_before requirement_cmp q r) (λ q. is_before requirement_cmp q s) (λ q. ap is_lt (alike_right requirements_total r s q e)) qs

pub rank_cmp : (qs : List Requirement) (r s : Requirement) → In qs r → In qs s → nat_cmp (rank_in qs r) (rank_in qs s) ≡ requirement_cmp r s
rank_cmp qs r s r_in s_in = cases (requirement_cmp r s) refl
  where
    cases : (o : Ordering) → requirement_cmp r s ≡ o → nat_cmp (rank_in qs r) (rank_in qs s) ≡ o
    cases Less e = is_less (rank_in qs r) (rank_in qs s) (rank_less qs r s r_in e)
    cases Equal e = is_level (rank_in qs r) (rank_in qs s) (rank_same qs r s e)
    cases Greater e = is_more (rank_in qs r) (rank_in qs s) (rank_less qs s r s_in (requirements_total.antisymm s r ∙ ap ordering_reverse e))

pub rank_tied : (qs : List Requirement) (r s : Requirement) → In qs r → In qs s → rank_in qs r ≡ rank_in qs s → requirement_cmp r s ≡ Equal
rank_tied qs r s r_in s_in e = sym (rank_cmp qs r s r_in s_in) ∙ is_level (rank_in qs r) (rank_in qs s) e

-- the order in which they stand makes no difference
pub ranks_same : (qs os : List Requirement) → IsPermutation qs os → (r : Requirement) → rank_in os r ≡ rank_in qs r
ranks_same qs os same r = sum_by-IsPermutation (λ q. cond (is_before requirement_cmp q r) 1 0) qs os same

-- ---- the first that has a number

abbrev pub first_at : {X : Type 0} → (X → ℕ) → X → List X → ℕ → X
first_at f d [] k = d
first_at f d (x ∷ xs) k = cond (f x == k) x (first_at f d xs k)

pub found_at : {X : Type 0} (f : X → ℕ) (d : X) (xs : List X) (k : ℕ) → list_any (λ x. f x == k) xs ≡ true → In xs (first_at f d xs k) × (f (first_at f d xs k) ≡ k)
found_at f d [] k e = let bad : false ≡ true = e in cc
found_at f d (x ∷ xs) k e = step (f x == k) refl (λ h. found_at f d xs k h) e
  where
    step : (b : Bool) → (f x == k) ≡ b → (list_any (λ x. f x == k) xs ≡ true → In xs (first_at f d xs k) × (f (first_at f d xs k) ≡ k)) → (b || list_any (λ x. f x == k) xs) ≡ true
        → ((x ≡ cond b x (first_at f d xs k)) ⊎ In xs (cond b x (first_at f d xs k))) × (f (cond b x (first_at f d xs k)) ≡ k)
    step true is h e = (inl refl, eqb-true (f x) k is)
    step false is h e = let both = h e in (inr both.0, both.1)
