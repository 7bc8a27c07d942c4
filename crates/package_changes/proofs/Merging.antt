-- Packages that belong together, in two lists in order.
use Rattle.std.proofs.Common.{◌≡◌, Bool, true, false, List, [], ◌∷◌, Option, Some, None, refl, sym, ap, ◌∙◌}
use Rattle.std.specs.Cmp.{IsTotalOrder}
use Rattle.std.specs.List.{AllByRecursion}
use Rattle.std.specs.Ordering.{is_eq, is_gt, eq_by_cmp}
use Rattle.std.specs.declared.cmp.Ordering.{Ordering}
use Rattle.std.specs.declared.cmp.Ordering.TheVariants.{Less, Equal, Greater}
use Rattle.std.proofs.lemmas.Cmp.{alike_right}
use Rattle.package_changes.specs.Pairing.{with_pair, with_old, with_new, behind, beside, first_like, pair_all}
use Rattle.package_changes.specs.Steps.{Rises}

none_first : {X : Type 0} (like : X → X → Bool) (x : X) (ys : List X) → AllByRecursion (λ y. like x y ≡ false) ys → first_like like x ys ≡ None
none_first like x [] h = refl
none_first like x (y ∷ ys) h = rw (h.0, none_first like x ys h.1) refl

-- an old one that is like no new one is left
pub old_left : {X : Type 0} (like : X → X → Bool) (x : X) (xs ys : List X) → AllByRecursion (λ y. like x y ≡ false) ys → pair_all like (x ∷ xs) ys ≡ with_old x (pair_all like xs ys)
old_left like x xs ys h = ap (λ found. beside x ys found (λ others. pair_all like xs others)) (none_first like x ys h)

-- a new one that no old one is like is left
pub new_left : {X : Type 0} (like : X → X → Bool) (y : X) (xs ys : List X) → AllByRecursion (λ x. like x y ≡ false) xs → pair_all like xs (y ∷ ys) ≡ with_new y (pair_all like xs ys)
new_left like y [] ys h = refl
new_left {X} like y (x ∷ xs) ys h = rw (h.0) (cases (first_like like x ys) (λ others. new_left like y xs others h.1))
  where
    cases : (found : Option (X × List X)) → ((others : List X) → pair_all like xs (y ∷ others) ≡ with_new y (pair_all like xs others)) → beside x (y ∷ ys) (behind y found) (λ others. pair_all like xs others) ≡ with_new y (beside x ys found (λ others. pair_all like xs others))
    cases None go = ap (with_old x) (go ys)
    cases (Some found) go = ap (with_pair x found.0) (go found.1)

-- the first two are alike
pub both_first : {X : Type 0} (like : X → X → Bool) (x y : X) (xs ys : List X) → like x y ≡ true → pair_all like (x ∷ xs) (y ∷ ys) ≡ with_pair x y (pair_all like xs ys)
both_first like x y xs ys h = rw h refl

-- what is less than the first is like none
pub less_all : {X : Type 0} (R : X → X → Ordering) (o : IsTotalOrder R) (x y : X) (ys : List X) → R x y ≡ Less → Rises R (y ∷ ys) → AllByRecursion (λ z. eq_by_cmp R x z ≡ false) (y ∷ ys)
less_all R o x y ys h up = (ap is_eq h, all ys up.0)
  where
    less : (z : _) → (a : Ordering) → R y z ≡ a → is_gt a ≡ false → R x z ≡ Less
    less z Less e g = o.trans x y z h e
    less z Equal e g = sym (alike_right o y z x e) ∙ h
    less z Greater e g = absurd (let bad : true ≡ false = g in cc)

    all : (zs : List _) → AllByRecursion (λ z. is_gt (R y z) ≡ false) zs → AllByRecursion (λ z. eq_by_cmp R x z ≡ false) zs
    all [] g = tt
    all (z ∷ zs) g = (ap is_eq (less z (R y z) refl g.0), all zs g.1)
