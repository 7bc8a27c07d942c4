-- Lists in order.
use Rattle.std.proofs.Common.{◌≡◌, ℕ, suc, ◌+◌, ◌≤◌, Bool, true, false, cond, List, [], ◌∷◌, get_or, map, refl, sym, ap, ◌∙◌, subst, arith}
use Rattle.std.specs.Prelude.{sum_by}
use Rattle.std.specs.Cmp.{IsTotalOrder}
use Rattle.std.specs.List.{AllByRecursion}
use Rattle.std.specs.List.Sorted.{IsPermutation, IsSortedBy}
use Rattle.std.specs.Ordering.{is_lt, is_eq, is_gt, ordering_reverse}
use Rattle.std.specs.declared.cmp.Ordering.{Ordering}
use Rattle.std.specs.declared.cmp.Ordering.TheVariants.{Less, Equal, Greater}
use Rattle.std.proofs.lemmas.Cmp.{upto, tied_itself}
use Rattle.std.proofs.lemmas.List.Elements.{All-map, recursion_from_All}
use Rattle.std.proofs.lemmas.List.Sums.{sum_by-cons}
use Rattle.std.proofs.lemmas.List.Sorted.{IsPermutation-refl, IsPermutation-cons, IsPermutation-trans, IsPermutation-middle, sum_by-IsPermutation, sorted_far, ranks_by}
use Rattle.package_changes.specs.Order.{put, in_order}
use Rattle.package_changes.specs.Steps.{Rises}

-- ---- one more at its place

all_put : {X : Type 0} (R : X → X → Ordering) (P : X → Type 0) (x : X) (ys : List X) → P x → AllByRecursion P ys → AllByRecursion P (put R x ys)
all_put R P x [] h all = (h, tt)
all_put R P x (y ∷ ys) h all = cases (is_gt (R x y)) (all_put R P x ys h all.1)
  where
    cases : (b : Bool) → AllByRecursion P (put R x ys) → AllByRecursion P (cond b (y ∷ put R x ys) (x ∷ y ∷ ys))
    cases true g = (all.0, g)
    cases false g = (h, all)

more_all : {X : Type 0} (R : X → X → Ordering) (o : IsTotalOrder R) (x y : X) (zs : List X) → is_gt (R x y) ≡ false → AllByRecursion (λ z. is_gt (R y z) ≡ false) zs → AllByRecursion (λ z. is_gt (R x z) ≡ false) zs
more_all R o x y [] e h = tt
more_all R o x y (z ∷ zs) e h = (upto o x y z e h.0, more_all R o x y zs e h.1)

pub back : {X : Type 0} (R : X → X → Ordering) (o : IsTotalOrder R) (x y : X) → is_lt (R y x) ≡ false → is_gt (R x y) ≡ false
back R o x y h = ap is_gt (o.antisymm x y) ∙ cases (R y x) h
  where
    cases : (a : Ordering) → is_lt a ≡ false → is_gt (ordering_reverse a) ≡ false
    cases Less g = absurd (let bad : true ≡ false = g in cc)
    cases Equal g = refl
    cases Greater g = refl

gt_back : {X : Type 0} (R : X → X → Ordering) (o : IsTotalOrder R) (x y : X) → is_gt (R x y) ≡ true → is_gt (R y x) ≡ false
gt_back R o x y h = ap is_gt (o.antisymm y x) ∙ cases (R x y) h
  where
    cases : (a : Ordering) → is_gt a ≡ true → is_gt (ordering_reverse a) ≡ false
    cases Less g = absurd (let bad : false ≡ true = g in cc)
    cases Equal g = refl
    cases Greater g = refl

put_rises : {X : Type 0} (R : X → X → Ordering) (o : IsTotalOrder R) (x : X) (ys : List X) → Rises R ys → Rises R (put R x ys)
put_rises R o x [] h = (tt, tt)
put_rises R o x (y ∷ ys) h = cases (is_gt (R x y)) refl (put_rises R o x ys h.1)
  where
    cases : (b : Bool) → is_gt (R x y) ≡ b → Rises R (put R x ys) → Rises R (cond b (y ∷ put R x ys) (x ∷ y ∷ ys))
    cases true e g = (all_put R (λ z. is_gt (R y z) ≡ false) x ys (gt_back R o x y e) h.0, g)
    cases false e g = ((e, more_all R o x y ys e h.0), h)

pub order_rises : {X : Type 0} (R : X → X → Ordering) (o : IsTotalOrder R) (xs : List X) → Rises R (in_order R xs)
order_rises R o [] = tt
order_rises R o (x ∷ xs) = put_rises R o x (in_order R xs) (order_rises R o xs)

put_moved : {X : Type 0} (R : X → X → Ordering) (x : X) (ys : List X) → IsPermutation (x ∷ ys) (put R x ys)
put_moved R x [] = IsPermutation-refl (x ∷ [])
put_moved R x (y ∷ ys) = cases (is_gt (R x y)) (put_moved R x ys)
  where
    cases : (b : Bool) → IsPermutation (x ∷ ys) (put R x ys) → IsPermutation (x ∷ y ∷ ys) (cond b (y ∷ put R x ys) (x ∷ y ∷ ys))
    cases true g = IsPermutation-trans (x ∷ y ∷ ys) (y ∷ x ∷ ys) (y ∷ put R x ys) (IsPermutation-middle (x ∷ []) y ys) (IsPermutation-cons y (x ∷ ys) (put R x ys) g)
    cases false g = IsPermutation-refl (x ∷ y ∷ ys)

pub order_moved : {X : Type 0} (R : X → X → Ordering) (xs : List X) → IsPermutation xs (in_order R xs)
order_moved R [] = IsPermutation-refl []
order_moved R (x ∷ xs) =
    IsPermutation-trans (x ∷ xs) (x ∷ in_order R xs) (put R x (in_order R xs)) (IsPermutation-cons x xs (in_order R xs) (order_moved R xs)) (put_moved R x (in_order R xs))

-- ---- there is one list in order with these elements

abbrev is_as : {X : Type 0} → (X → X → Ordering) → X → X → ℕ
is_as R z x = cond (is_eq (R z x)) 1 0

-- how many of them tie with it
pub tally : {X : Type 0} → (X → X → Ordering) → X → List X → ℕ
tally R z [] = 0
tally R z (x ∷ xs) = is_as R z x + tally R z xs

summed : {X : Type 0} (R : X → X → Ordering) (z : X) (xs : List X) → sum_by (is_as R z) xs ≡ tally R z xs
unfolding tally
summed R z [] = refl
summed R z (x ∷ xs) = sum_by-cons (is_as R z) x xs ∙ ap (λ (n : ℕ). is_as R z x + n) (summed R z xs)

abbrev Ties : {X : Type 0} → (X → X → Ordering) → Type 0
Ties {X} R = (x y : X) → R x y ≡ Equal → x ≡ y

eq_is : (a : Ordering) → is_eq a ≡ true → a ≡ Equal
eq_is Less h = absurd (let bad : false ≡ true = h in cc)
eq_is Equal h = refl
eq_is Greater h = absurd (let bad : false ≡ true = h in cc)

counted_itself : {X : Type 0} (R : X → X → Ordering) (o : IsTotalOrder R) (x : X) → is_as R x x ≡ 1
counted_itself R o x = ap (λ (a : Ordering). cond (is_eq a) 1 0) (tied_itself o x)

-- one that is among these isn't less than what is less than none of them
among : {X : Type 0} (R : X → X → Ordering) (t : Ties R) (y z : X) (ws : List X) → AllByRecursion (λ w. is_gt (R y w) ≡ false) ws → 1 ≤ tally R z ws → is_gt (R y z) ≡ false
unfolding tally
among R t y z [] all h = absurd (omega (arith, h))
among R t y z (w ∷ ws) all h = cases (is_eq (R z w)) refl (λ more. among R t y z ws all.1 more)
  where
    cases : (b : Bool) → is_eq (R z w) ≡ b → (1 ≤ tally R z ws → is_gt (R y z) ≡ false) → is_gt (R y z) ≡ false
    cases true e go = subst (λ q. is_gt (R y q) ≡ false) (sym (t z w (eq_is (R z w) e))) all.0
    cases false e go =
        let none : is_as R z w ≡ 0 = ap (λ (b : Bool). cond b 1 0) e in
        go (omega (arith, h, none))

both_ways : {X : Type 0} (R : X → X → Ordering) (o : IsTotalOrder R) (x y : X) → is_gt (R x y) ≡ false → is_gt (R y x) ≡ false → R x y ≡ Equal
both_ways R o x y g h = cases (R x y) g (ap is_gt (sym (o.antisymm y x)) ∙ h)
  where
    cases : (a : Ordering) → is_gt a ≡ false → is_gt (ordering_reverse a) ≡ false → a ≡ Equal
    cases Less p q = absurd (let bad : true ≡ false = q in cc)
    cases Equal p q = refl
    cases Greater p q = absurd (let bad : true ≡ false = p in cc)

abbrev SameCounts : {X : Type 0} → (X → X → Ordering) → List X → List X → Type 0
SameCounts {X} R xs ys = (z : X) → tally R z xs ≡ tally R z ys

first_upto : {X : Type 0} (R : X → X → Ordering) (o : IsTotalOrder R) (t : Ties R) (x y : X) (xs ys : List X) → AllByRecursion (λ w. is_gt (R y w) ≡ false) ys → SameCounts R (x ∷ xs) (y ∷ ys) → is_gt (R y x) ≡ false
unfolding tally
first_upto R o t x y xs ys all h =
    let one = counted_itself R o x in
    let same : is_as R x x + tally R x xs ≡ is_as R x y + tally R x ys = h x in
    among R t y x (y ∷ ys) (ap is_gt (tied_itself o y), all) (omega (arith, one, same))

pub unique : {X : Type 0} (R : X → X → Ordering) (o : IsTotalOrder R) (t : Ties R) (xs ys : List X) → Rises R xs → Rises R ys → SameCounts R xs ys → xs ≡ ys
unfolding tally
unique R o t [] [] g h same = refl
unique R o t [] (y ∷ ys) g h same =
    let none : 0 ≡ is_as R y y + tally R y ys = same y in
    absurd (omega (arith, none, counted_itself R o y))
unique R o t (x ∷ xs) [] g h same =
    let none : is_as R x x + tally R x xs ≡ 0 = same x in
    absurd (omega (arith, none, counted_itself R o x))
unique {X} R o t (x ∷ xs) (y ∷ ys) g h same =
    let heads : x ≡ y = t x y (both_ways R o x y (first_upto R o t y x ys xs g.0 (λ z. sym (same z))) (first_upto R o t x y xs ys h.0 same)) in
    let tails : SameCounts R xs ys = λ z.
    let all : is_as R z x + tally R z xs ≡ is_as R z y + tally R z ys = same z in
    let one : is_as R z x ≡ is_as R z y = ap (λ q. is_as R z q) heads in
    omega (arith, all, one) in
    ap (λ q. q ∷ xs) heads ∙ ap (λ (q : List X). y ∷ q) (unique R o t xs ys g.1 h.1 tails)

pub order_unique : {X : Type 0} (R : X → X → Ordering) (o : IsTotalOrder R) (t : Ties R) (xs ys : List X) → IsPermutation xs ys → Rises R ys → ys ≡ in_order R xs
order_unique R o t xs ys moved up =
    unique R o t ys (in_order R xs) up (order_rises R o xs)
    (λ z. sym (summed R z ys) ∙ sum_by-IsPermutation (is_as R z) xs ys moved ∙ sym (sum_by-IsPermutation (is_as R z) xs (in_order R xs) (order_moved R xs)) ∙ summed R z (in_order R xs))

pub order_same : {X : Type 0} (R : X → X → Ordering) (o : IsTotalOrder R) (t : Ties R) (xs ys : List X) → IsPermutation xs ys → in_order R ys ≡ in_order R xs
order_same R o t xs ys moved =
    order_unique R o t xs (in_order R ys) (IsPermutation-trans xs ys (in_order R ys) moved (order_moved R ys)) (order_rises R o ys)

-- ---- what a sort gives

sorted_rest : {X : Type 0} (lt : X → X → Bool) (x : X) (xs : List X) → IsSortedBy lt (x ∷ xs) → IsSortedBy lt xs
sorted_rest lt x xs h k d low high =
    let next : suc k + 1 ≡ suc (k + 1) = omega arith in
    subst (λ (n : ℕ). lt (get_or (x ∷ xs) n d) (get_or (x ∷ xs) (suc k) d) ≡ false) next (h (suc k) d (omega arith) (omega (arith, high)))

pub from_sorted : {X K : Type 0} (R : K → K → Ordering) (o : IsTotalOrder R) (f : X → K) (xs : List X) → IsSortedBy (λ x y. is_lt (R (f x) (f y))) xs → Rises R (map f xs)
from_sorted R o f [] h = tt
from_sorted R o f (x ∷ xs) h = (
  recursion_from_All _ (map f xs)
      (All-map (λ y. is_gt (R (f x) y) ≡ false) f xs
      (λ k d low. back R o (f x) (f (get_or xs k d)) (sorted_far (λ x y. is_lt (R (f x) (f y))) (ranks_by o f) (x ∷ xs) h 0 (suc k) d (omega arith) (omega (arith, low))))),
  from_sorted R o f xs (sorted_rest (λ x y. is_lt (R (f x) (f y))) x xs h),
)
