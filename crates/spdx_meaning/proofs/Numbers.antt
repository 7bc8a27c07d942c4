-- The words of selections and of this crate, at numbers.
use Rattle.std.proofs.Common.{◌≡◌, ℕ, zero, suc, ◌+◌, ◌<◌, true, false, List, [], ◌∷◌, get_or, refl, sym, ◌∙◌, ap, subst, arith, All}
use Rattle.std.specs.Prelude.{◌==◌}
use Rattle.std.specs.List.{list_all, AllByRecursion}
use Rattle.std.specs.List.Sorted.{IsStrictlyIncreasing}
use Rattle.std.specs.Ordering.{nat_cmp, is_lt, is_eq}
use Rattle.std.specs.declared.cmp.Ordering.TheVariants.{Less, Equal, Greater}
use Rattle.std.proofs.lemmas.Cmp.{ranked, by_ranked}
use Rattle.std.proofs.lemmas.Bool.Decides.{nat_tests}
use Rattle.std.proofs.lemmas.List.Elements.{All-head, All-tail, All-cons, All-nil}
use Rattle.selections.specs.Sets as Sets
use Rattle.selections.specs.Order as Order
use Rattle.selections.proofs.Means.{all_weaker, and_first, and_both}
use Rattle.spdx_meaning.specs.Sets.{AllLater, is_before, differ, sets_cmp}

pub from_less : (x y : ℕ) → is_lt (nat_cmp x y) ≡ true → x < y
from_less x y e = by_ranked (x < y) (x ≡ y) (y < x) (nat_cmp x y) (ranked x y (nat_cmp x y) refl) (λ h k. k) (λ h k. let bad : false ≡ true = sym (ap is_lt h) ∙ e in absurd cc) (λ h k. let bad : false ≡ true = sym (ap is_lt h) ∙ e in absurd cc)

pub is_less : (x y : ℕ) → x < y → nat_cmp x y ≡ Less
is_less x y h = grind (arith, nat_tests, h)

pub less_is : (x y : ℕ) → x < y → is_lt (nat_cmp x y) ≡ true
less_is x y h = ap is_lt (is_less x y h)

pub is_more : (x y : ℕ) → y < x → nat_cmp x y ≡ Greater
is_more x y h = grind (arith, nat_tests, h)

pub is_level : (x y : ℕ) → x ≡ y → nat_cmp x y ≡ Equal
is_level x y h = grind (arith, nat_tests, h)

pub same_number : (x y : ℕ) → (x == y) ≡ is_eq (nat_cmp x y)
same_number x y = by_ranked (x < y) (x ≡ y) (y < x) (nat_cmp x y) (ranked x y (nat_cmp x y) refl)
    (λ h k. let no : (x == y) ≡ false = grind (arith, nat_tests, k) in no ∙ sym (ap is_eq h))
    (λ h k. let yes : (x == y) ≡ true = grind (arith, nat_tests, k) in yes ∙ sym (ap is_eq h))
    (λ h k. let no : (x == y) ≡ false = grind (arith, nat_tests, k) in no ∙ sym (ap is_eq h))

-- ---- sets apart, and in order

pub from_apart : (ss : List (List ℕ)) → Sets.AreApart ss → AllLater (differ ◌==◌) ss
from_apart [] h = tt
from_apart (s ∷ ss) h = (h.0, from_apart ss h.1)

pub to_apart : (ss : List (List ℕ)) → AllLater (differ ◌==◌) ss → Sets.AreApart ss
to_apart [] h = tt
to_apart (s ∷ ss) h = (h.0, to_apart ss h.1)

pub from_ordered : (ss : List (List ℕ)) → Order.AreInOrder ss → AllLater (is_before (sets_cmp nat_cmp)) ss
from_ordered [] h = tt
from_ordered (s ∷ ss) h = (h.0, from_ordered ss h.1)

pub to_ordered : (ss : List (List ℕ)) → AllLater (is_before (sets_cmp nat_cmp)) ss → Order.AreInOrder ss
to_ordered [] h = tt
to_ordered (s ∷ ss) h = (h.0, to_ordered ss h.1)

-- ---- rising numbers

rest_rises : (x : ℕ) (xs : List ℕ) → IsStrictlyIncreasing (x ∷ xs) → IsStrictlyIncreasing xs
rest_rises x xs r k lt = let e : suc k + 1 ≡ suc (k + 1) = omega arith in subst (λ (n : ℕ). get_or (x ∷ xs) (suc k) 0 < get_or (x ∷ xs) n 0) e (r (suc k) (omega arith))

first_rises : (x y : ℕ) (ys : List ℕ) → IsStrictlyIncreasing (x ∷ y ∷ ys) → x < y
first_rises x y ys r = let e : 0 + 1 ≡ 1 = omega arith in r 0 (omega arith)

below_all : (x : ℕ) (xs : List ℕ) → IsStrictlyIncreasing (x ∷ xs) → list_all (is_before nat_cmp x) xs ≡ true
below_all x [] r = refl
below_all x (y ∷ ys) r =
    let up : x < y = first_rises x y ys r in
    and_both (is_before nat_cmp x y) (list_all (is_before nat_cmp x) ys) (less_is x y up)
    (all_weaker (is_before nat_cmp y) (is_before nat_cmp x) ys (λ z e. let h : y < z = from_less y z e in less_is x z (omega arith)) (below_all y ys (rest_rises x (y ∷ ys) r)))

pub from_rising : (xs : List ℕ) → IsStrictlyIncreasing xs → AllLater (is_before nat_cmp) xs
from_rising [] r = tt
from_rising (x ∷ xs) r = (below_all x xs r, from_rising xs (rest_rises x xs r))

pub to_rising : (xs : List ℕ) → AllLater (is_before nat_cmp) xs → IsStrictlyIncreasing xs
to_rising [] h k lt = absurd (omega arith)
to_rising (x ∷ []) h k lt = absurd (omega arith)
to_rising (x ∷ y ∷ ys) h zero lt = from_less x y (and_first (is_before nat_cmp x y) (list_all (is_before nat_cmp x) ys) h.0)
to_rising (x ∷ y ∷ ys) h (suc k) lt = let e : suc k + 1 ≡ suc (k + 1) = omega arith in subst (λ (n : ℕ). get_or (y ∷ ys) k 0 < get_or (x ∷ y ∷ ys) n 0) (sym e) (to_rising (y ∷ ys) h.1 k (omega arith))

pub all_from_rising : (ss : List (List ℕ)) → All IsStrictlyIncreasing ss → AllByRecursion (AllLater (is_before nat_cmp)) ss
all_from_rising [] h = tt
all_from_rising (s ∷ ss) h = (from_rising s (All-head IsStrictlyIncreasing s ss h), all_from_rising ss (All-tail IsStrictlyIncreasing s ss h))

pub all_to_rising : (ss : List (List ℕ)) → AllByRecursion (AllLater (is_before nat_cmp)) ss → All IsStrictlyIncreasing ss
all_to_rising [] h = All-nil IsStrictlyIncreasing
all_to_rising (s ∷ ss) h = All-cons IsStrictlyIncreasing s ss (to_rising s h.0) (all_to_rising ss h.1)
