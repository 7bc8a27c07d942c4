-- Lists that are related place by place.
use Rattle.std.proofs.Common.{◌≡◌, ℕ, zero, suc, ◌+◌, ◌<◌, List, [], ◌∷◌, ◌++◌, length, get_or, take, map, Some, None, sym, ap, subst, ◌∙◌, arith}
use Rattle.std.specs.Prelude.{slice_get}
use Rattle.std.proofs.lemmas.List.{take_more, map-append}
use Rattle.spdx_policy.specs.Meant.{Each, HasOne, AtEach, AtEachBefore}

pub each-append : {A B : Type 0} (R : A → B → Type 0) (xs : List A) (ys : List B) (x : A) (y : B) → Each R xs ys → R x y → Each R (xs ++ x ∷ []) (ys ++ y ∷ [])
each-append R [] [] x y all new = (new, tt)
each-append R (a ∷ xs) (b ∷ ys) x y all new = (all.0, each-append R xs ys x y all.1 new)
each-append R [] (b ∷ ys) x y all new = absurd all
each-append R (a ∷ xs) [] x y all new = absurd all

-- one element more of a list, by what it and the new one show
pub each_more : {A B C D : Type 0} (R : A → B → Type 0) (f : C → A) (g : D → B) (xs : List C) (i : ℕ) (x : C) (ys new : List D) (y : D)
    → i < length xs → x ≡ get_or xs i x → new ≡ ys ++ y ∷ [] → Each R (map f (take i xs)) (map g ys) → R (f x) (g y)
    → Each R (map f (take (i + 1) xs)) (map g new)
each_more R f g xs i x ys new y lt at is all here =
    let from : map f (take (i + 1) xs) ≡ map f (take i xs) ++ f x ∷ [] =
    ap (map f) (take_more xs i x lt ∙ ap (λ z. take i xs ++ z ∷ []) (sym at)) ∙ map-append f (take i xs) (x ∷ []) in
    let to : map g new ≡ map g ys ++ g y ∷ [] = ap (map g) is ∙ map-append g ys (y ∷ []) in
    subst (λ zs. Each R zs (map g new)) (sym from) (subst (λ zs. Each R (map f (take i xs) ++ f x ∷ []) zs) (sym to) (each-append R (map f (take i xs)) (map g ys) (f x) (g y) all here))

-- each element is related to one
pub each_all : {A B : Type 0} (R : A → B → Type 0) (xs : List A) (ys : List B) → Each R xs ys → AtEach (HasOne R) xs
each_all R [] ys all k x at = let bad : None ≡ Some x = at in absurd (cc)
each_all R (a ∷ xs) [] all k x at = absurd all
each_all {A} R (a ∷ xs) (b ∷ ys) all zero x at = subst (HasOne R) (same at) (b, all.0)
  where
    same : Some a ≡ Some x → a ≡ x
    same e = cc
each_all R (a ∷ xs) (b ∷ ys) all (suc k) x at = each_all R xs ys all.1 k x at

-- and so is each one before a place, where those before it are listed
pub each_before : {A B C : Type 0} (R : A → B → Type 0) (f : C → A) (xs : List C) (i : ℕ) (ys : List B) → Each R (map f (take i xs)) ys → AtEachBefore (HasOne R) (map f xs) i
each_before R f [] i ys all k x lt at = let bad : None ≡ Some x = at in absurd (cc)
each_before R f (a ∷ xs) zero ys all k x lt at = absurd (omega (arith, lt))
each_before R f (a ∷ xs) (suc i) [] all k x lt at = absurd all
each_before {A} R f (a ∷ xs) (suc i) (b ∷ ys) all zero x lt at = subst (HasOne R) (same at) (b, all.0)
  where
    same : Some (f a) ≡ Some x → f a ≡ x
    same e = cc
each_before R f (a ∷ xs) (suc i) (b ∷ ys) all (suc k) x lt at = each_before R f xs i ys all.1 k x (omega (arith, lt)) at

-- where an element is related to none, no list is related
pub each_none : {A B : Type 0} (R : A → B → Type 0) (xs : List A) (ys : List B) (i : ℕ) (x : A) → slice_get xs i ≡ Some x → ((y : B) → R x y → ⊥) → Each R xs ys → ⊥
each_none R [] ys i x at none all = absurd (cc)
each_none R (a ∷ xs) [] i x at none all = all
each_none {A} R (a ∷ xs) (b ∷ ys) zero x at none all = none b (subst (λ (z : A). R z b) (same at) all.0)
  where
    same : Some a ≡ Some x → a ≡ x
    same e = cc
each_none R (a ∷ xs) (b ∷ ys) (suc i) x at none all = each_none R xs ys i x at none all.1

-- what is at a place of a list, by what it shows
pub shown_at : {A B : Type 0} (f : A → B) (xs : List A) (i : ℕ) (x : A) → i < length xs → x ≡ get_or xs i x → slice_get (map f xs) i ≡ Some (f x)
shown_at f [] i x lt at = absurd (omega arith)
shown_at f (a ∷ xs) zero x lt at = ap (λ z. Some (f z)) (sym at)
shown_at f (a ∷ xs) (suc i) x lt at = shown_at f xs i x (omega arith) at
