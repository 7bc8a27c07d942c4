-- What belongs together, and what is left, of any two lists.
use Rattle.std.proofs.Common.{◌≡◌, ℕ, zero, suc, ◌+◌, ◌≤◌, Bool, true, false, cond, List, [], ◌∷◌, ◌++◌, length, map, flat_map, Option, Some, None, refl, sym, ap, ◌∙◌, subst, append_assoc, arith}
use Rattle.std.specs.Cmp.{IsTotalOrder}
use Rattle.std.specs.List.{AllByRecursion}
use Rattle.std.specs.List.Sorted.{IsPermutation}
use Rattle.std.specs.Ordering.{is_eq, is_gt, ordering_reverse, eq_by_cmp}
use Rattle.std.specs.declared.cmp.Ordering.{Ordering}
use Rattle.std.specs.declared.cmp.Ordering.TheVariants.{Less, Equal, Greater}
use Rattle.std.proofs.lemmas.List.Sorted.{IsPermutation-refl, IsPermutation-sym, IsPermutation-cons, IsPermutation-trans, IsPermutation-middle, IsPermutation-append_left, IsPermutation-append_right, IsPermutation-append_comm}
use Rattle.package_changes.specs.Order.{put, in_order}
use Rattle.package_changes.specs.Pairing.{Paired, with_pair, with_old, with_new, behind, beside, first_like, pair_all}
use Rattle.package_changes.specs.Steps.{Rises}
use Rattle.package_changes.proofs.Merging.{old_left, new_left, both_first, less_all}

abbrev pub olds : {X : Type 0} → Paired X → List X
olds {X} p = map (λ (pair : X × X). pair.0) p.pairs ++ p.old

abbrev pub news : {X : Type 0} → Paired X → List X
news {X} p = map (λ (pair : X × X). pair.1) p.pairs ++ p.new

-- ---- each is told once

abbrev IsFirst : {X : Type 0} → List X → Option (X × List X) → Type 0
IsFirst ys None = Unit {0}
IsFirst ys (Some found) = IsPermutation ys (found.0 ∷ found.1)

first_moved : {X : Type 0} (like : X → X → Bool) (x : X) (ys : List X) → IsFirst ys (first_like like x ys)
first_moved like x [] = tt
first_moved {X} like x (y ∷ ys) = cases (like x y) (first_like like x ys) (first_moved like x ys)
  where
    cases : (b : Bool) (found : Option (X × List X)) → IsFirst ys found → IsFirst (y ∷ ys) (cond b (Some (y, ys)) (behind y found))
    cases true found h = IsPermutation-refl (y ∷ ys)
    cases false None h = tt
    cases false (Some found) h =
        IsPermutation-trans (y ∷ ys) (y ∷ found.0 ∷ found.1) (found.0 ∷ y ∷ found.1) (IsPermutation-cons y ys (found.0 ∷ found.1) h) (IsPermutation-middle (y ∷ []) found.0 found.1)

pub old_once : {X : Type 0} (like : X → X → Bool) (xs ys : List X) → IsPermutation xs (olds (pair_all like xs ys))
old_once like [] ys = IsPermutation-refl []
old_once {X} like (x ∷ xs) ys = cases (first_like like x ys) (λ others. old_once like xs others)
  where
    cases : (found : Option (X × List X)) → ((others : List X) → IsPermutation xs (olds (pair_all like xs others))) → IsPermutation (x ∷ xs) (olds (beside x ys found (λ others. pair_all like xs others)))
    cases None go =
        let p = pair_all like xs ys in
        let firsts = map (λ (pair : X × X). pair.0) p.pairs in
        IsPermutation-trans (x ∷ xs) (x ∷ olds p) (firsts ++ x ∷ p.old) (IsPermutation-cons x xs (olds p) (go ys)) (IsPermutation-sym (firsts ++ x ∷ p.old) (x ∷ olds p) (IsPermutation-middle firsts x p.old))
    cases (Some found) go = IsPermutation-cons x xs (olds (pair_all like xs found.1)) (go found.1)

pub new_once : {X : Type 0} (like : X → X → Bool) (xs ys : List X) → IsPermutation ys (news (pair_all like xs ys))
new_once like [] ys = IsPermutation-refl ys
new_once {X} like (x ∷ xs) ys = cases (first_like like x ys) (first_moved like x ys) (λ others. new_once like xs others)
  where
    cases : (found : Option (X × List X)) → IsFirst ys found → ((others : List X) → IsPermutation others (news (pair_all like xs others))) → IsPermutation ys (news (beside x ys found (λ others. pair_all like xs others)))
    cases None h go = go ys
    cases (Some found) h go = IsPermutation-trans ys (found.0 ∷ found.1) (found.0 ∷ news (pair_all like xs found.1)) h (IsPermutation-cons found.0 found.1 (news (pair_all like xs found.1)) (go found.1))

-- ---- what belongs together is alike, and what is left isn't

abbrev IsLikeFirst : {X : Type 0} → (X → X → Bool) → X → Option (X × List X) → Type 0
IsLikeFirst like x None = Unit {0}
IsLikeFirst like x (Some found) = like x found.0 ≡ true

first_alike : {X : Type 0} (like : X → X → Bool) (x : X) (ys : List X) → IsLikeFirst like x (first_like like x ys)
first_alike like x [] = tt
first_alike {X} like x (y ∷ ys) = cases (like x y) refl (first_like like x ys) (first_alike like x ys)
  where
    cases : (b : Bool) → like x y ≡ b → (found : Option (X × List X)) → IsLikeFirst like x found → IsLikeFirst like x (cond b (Some (y, ys)) (behind y found))
    cases true e found h = e
    cases false e None h = tt
    cases false e (Some found) h = h

pub pairs_alike : {X : Type 0} (like : X → X → Bool) (xs ys : List X) → AllByRecursion (λ (pair : X × X). like pair.0 pair.1 ≡ true) (pair_all like xs ys).pairs
pairs_alike like [] ys = tt
pairs_alike {X} like (x ∷ xs) ys = cases (first_like like x ys) (first_alike like x ys) (λ others. pairs_alike like xs others)
  where
    cases : (found : Option (X × List X)) → IsLikeFirst like x found → ((others : List X) → AllByRecursion (λ (pair : X × X). like pair.0 pair.1 ≡ true) (pair_all like xs others).pairs)
        → AllByRecursion (λ (pair : X × X). like pair.0 pair.1 ≡ true) (beside x ys found (λ others. pair_all like xs others)).pairs
    cases None h go = go ys
    cases (Some found) h go = (h, go found.1)

-- a test that all new ones pass is passed by those that are left
abbrev AllOthers : {X : Type 0} → (X → Type 0) → Option (X × List X) → Type 0
AllOthers Q None = Unit {0}
AllOthers Q (Some found) = AllByRecursion Q found.1

others_pass : {X : Type 0} (like : X → X → Bool) (Q : X → Type 0) (x : X) (ys : List X) → AllByRecursion Q ys → AllOthers Q (first_like like x ys)
others_pass like Q x [] h = tt
others_pass {X} like Q x (y ∷ ys) h = cases (like x y) (first_like like x ys) (others_pass like Q x ys h.1)
  where
    cases : (b : Bool) (found : Option (X × List X)) → AllOthers Q found → AllOthers Q (cond b (Some (y, ys)) (behind y found))
    cases true found g = h.1
    cases false None g = tt
    cases false (Some found) g = (h.0, g)

left_pass : {X : Type 0} (like : X → X → Bool) (Q : X → Type 0) (xs ys : List X) → AllByRecursion Q ys → AllByRecursion Q (pair_all like xs ys).new
left_pass like Q [] ys h = h
left_pass {X} like Q (x ∷ xs) ys h = cases (first_like like x ys) (others_pass like Q x ys h) (λ others g. left_pass like Q xs others g)
  where
    cases : (found : Option (X × List X)) → AllOthers Q found → ((others : List X) → AllByRecursion Q others → AllByRecursion Q (pair_all like xs others).new) → AllByRecursion Q (beside x ys found (λ others. pair_all like xs others)).new
    cases None g go = go ys h
    cases (Some found) g go = go found.1 g

none_alike : {X : Type 0} (like : X → X → Bool) (x : X) (ys : List X) → first_like like x ys ≡ None → AllByRecursion (λ y. like x y ≡ false) ys
none_alike like x [] h = tt
none_alike {X} like x (y ∷ ys) h = cases (like x y) refl (first_like like x ys) refl (λ e. none_alike like x ys e) h
  where
    cases : (b : Bool) → like x y ≡ b → (found : Option (X × List X)) → first_like like x ys ≡ found → (first_like like x ys ≡ None → AllByRecursion (λ z. like x z ≡ false) ys) → cond b (Some (y, ys)) (behind y found) ≡ None
        → AllByRecursion (λ z. like x z ≡ false) (y ∷ ys)
    cases true e found f go h = absurd (let bad : Some (y, ys) ≡ None = h in cc)
    cases false e None f go h = (e, go f)
    cases false e (Some found) f go h = absurd (let bad : Some (found.0, y ∷ found.1) ≡ None = h in cc)

pub left_apart : {X : Type 0} (like : X → X → Bool) (xs ys : List X) → AllByRecursion (λ x. AllByRecursion (λ y. like x y ≡ false) (pair_all like xs ys).new) (pair_all like xs ys).old
left_apart like [] ys = tt
left_apart {X} like (x ∷ xs) ys = cases (first_like like x ys) refl (λ others. left_apart like xs others)
  where
    cases : (found : Option (X × List X)) → first_like like x ys ≡ found → ((others : List X) → AllByRecursion (λ z. AllByRecursion (λ y. like z y ≡ false) (pair_all like xs others).new) (pair_all like xs others).old)
        → AllByRecursion (λ z. AllByRecursion (λ y. like z y ≡ false) (beside x ys found (λ others. pair_all like xs others)).new) (beside x ys found (λ others. pair_all like xs others)).old
    cases None e go = (left_pass like (λ y. like x y ≡ false) xs ys (none_alike like x ys e), go ys)
    cases (Some found) e go = go found.1

-- ---- a list with itself

pub self_paired : {X : Type 0} (like : X → X → Bool) (zs : List X) → ((z : X) → like z z ≡ true) → pair_all like zs zs ≡ record { pairs = map (λ (z : X). (z, z)) zs; old = []; new = [] }
self_paired like [] h = refl
self_paired like (z ∷ zs) h = both_first like z z zs zs (h z) ∙ ap (with_pair z z) (self_paired like zs h)

-- ---- the other way round

abbrev pub swapped : {X : Type 0} → Paired X → Paired X
swapped {X} p = record { pairs = map (λ (pair : X × X). (pair.1, pair.0)) p.pairs; old = p.new; new = p.old }

no_new : {X : Type 0} (like : X → X → Bool) (xs : List X) → pair_all like xs [] ≡ record { pairs = []; old = xs; new = [] }
no_new like [] = refl
no_new like (x ∷ xs) = ap (with_old x) (no_new like xs)

eq_back : (a : Ordering) → is_eq a ≡ is_eq (ordering_reverse a)
eq_back Less = refl
eq_back Equal = refl
eq_back Greater = refl

flip_all : {X : Type 0} (R : X → X → Ordering) (o : IsTotalOrder R) (x : X) (ys : List X) → AllByRecursion (λ y. eq_by_cmp R x y ≡ false) ys → AllByRecursion (λ y. eq_by_cmp R y x ≡ false) ys
flip_all R o x [] h = tt
flip_all R o x (y ∷ ys) h = (ap is_eq (o.antisymm y x) ∙ sym (eq_back (R x y)) ∙ h.0, flip_all R o x ys h.1)

abbrev Swaps : {X : Type 0} → (X → X → Ordering) → List X → List X → Type 0
Swaps R xs ys = pair_all (eq_by_cmp R) ys xs ≡ swapped (pair_all (eq_by_cmp R) xs ys)

swap_less : {X : Type 0} (R : X → X → Ordering) (o : IsTotalOrder R) (x y : X) (xs ys : List X) → R x y ≡ Less → Rises R (y ∷ ys) → Swaps R xs (y ∷ ys) → Swaps R (x ∷ xs) (y ∷ ys)
swap_less R o x y xs ys e up h =
    let apart = less_all R o x y ys e up in
    new_left (eq_by_cmp R) x (y ∷ ys) xs (flip_all R o x (y ∷ ys) apart) ∙ ap (with_new x) h ∙ sym (ap swapped (old_left (eq_by_cmp R) x xs (y ∷ ys) apart))

swap_greater : {X : Type 0} (R : X → X → Ordering) (o : IsTotalOrder R) (x y : X) (xs ys : List X) → R y x ≡ Less → Rises R (x ∷ xs) → Swaps R (x ∷ xs) ys → Swaps R (x ∷ xs) (y ∷ ys)
swap_greater R o x y xs ys e up h =
    let apart = less_all R o y x xs e up in
    old_left (eq_by_cmp R) y ys (x ∷ xs) apart ∙ ap (with_old y) h ∙ sym (ap swapped (new_left (eq_by_cmp R) y (x ∷ xs) ys (flip_all R o y (x ∷ xs) apart)))

swap_equal : {X : Type 0} (R : X → X → Ordering) (o : IsTotalOrder R) (x y : X) (xs ys : List X) → R x y ≡ Equal → Swaps R xs ys → Swaps R (x ∷ xs) (y ∷ ys)
swap_equal R o x y xs ys e h =
    both_first (eq_by_cmp R) y x ys xs (ap is_eq (o.antisymm y x ∙ ap ordering_reverse e)) ∙ ap (with_pair y x) h ∙ sym (ap swapped (both_first (eq_by_cmp R) x y xs ys (ap is_eq e)))

pub swaps_upto : {X : Type 0} (R : X → X → Ordering) (o : IsTotalOrder R) (n : ℕ) (xs ys : List X) → length xs + length ys ≤ n → Rises R xs → Rises R ys → Swaps R xs ys
swaps_upto R o n [] ys most up upper = no_new (eq_by_cmp R) ys
swaps_upto R o n (x ∷ xs) [] most up upper = sym (ap swapped (no_new (eq_by_cmp R) (x ∷ xs)))
swaps_upto R o zero (x ∷ xs) (y ∷ ys) most up upper = absurd (omega (arith, most))
swaps_upto {X} R o (suc n) (x ∷ xs) (y ∷ ys) most up upper =
    cases (R x y) refl (swaps_upto R o n xs (y ∷ ys) (omega (arith, most)) up.1 upper) (swaps_upto R o n (x ∷ xs) ys (omega (arith, most)) up upper.1) (swaps_upto R o n xs ys (omega (arith, most)) up.1 upper.1)
  where
    cases : (a : Ordering) → R x y ≡ a → Swaps R xs (y ∷ ys) → Swaps R (x ∷ xs) ys → Swaps R xs ys → Swaps R (x ∷ xs) (y ∷ ys)
    cases Less e less greater equal = swap_less R o x y xs ys e upper less
    cases Equal e less greater equal = swap_equal R o x y xs ys e equal
    cases Greater e less greater equal = swap_greater R o x y xs ys (o.antisymm y x ∙ ap ordering_reverse e) up greater

pub swaps : {X : Type 0} (R : X → X → Ordering) (o : IsTotalOrder R) (xs ys : List X) → Rises R xs → Rises R ys → Swaps R xs ys
swaps R o xs ys up upper = swaps_upto R o (length xs + length ys) xs ys (omega arith) up upper

-- ---- what elements give, in another order

put_given : {X A : Type 0} (R : X → X → Ordering) (f : X → List A) (x : X) (ys : List X) → IsPermutation (f x ++ flat_map f ys) (flat_map f (put R x ys))
put_given R f x [] = IsPermutation-refl (f x ++ [])
put_given {X} {A} R f x (y ∷ ys) = cases (R x y) (put_given R f x ys)
  where
    cases : (a : Ordering) → IsPermutation (f x ++ flat_map f ys) (flat_map f (put R x ys)) → IsPermutation (f x ++ (f y ++ flat_map f ys)) (flat_map f (cond (is_gt a) (y ∷ put R x ys) (x ∷ y ∷ ys)))
    cases Less h = IsPermutation-refl _
    cases Equal h = IsPermutation-refl _
    cases Greater h =
        let zs = flat_map f ys in
        let one : IsPermutation (f x ++ (f y ++ zs)) ((f y ++ f x) ++ zs) = subst (λ (l : List A). IsPermutation l ((f y ++ f x) ++ zs)) (append_assoc (f x) (f y) zs) (IsPermutation-append_left zs (f x ++ f y) (f y ++ f x) (IsPermutation-append_comm (f x) (f y))) in
        let two : IsPermutation (f x ++ (f y ++ zs)) (f y ++ (f x ++ zs)) = subst (λ (l : List A). IsPermutation (f x ++ (f y ++ zs)) l) (append_assoc (f y) (f x) zs) one in
        IsPermutation-trans _ _ _ two (IsPermutation-append_right (f y) _ _ h)

pub order_given : {X A : Type 0} (R : X → X → Ordering) (f : X → List A) (xs : List X) → IsPermutation (flat_map f xs) (flat_map f (in_order R xs))
order_given R f [] = IsPermutation-refl []
order_given R f (x ∷ xs) =
    IsPermutation-trans _ _ _ (IsPermutation-append_right (f x) (flat_map f xs) (flat_map f (in_order R xs)) (order_given R f xs)) (put_given R f x (in_order R xs))
