-- Among some that are in their order, as many stand before one of them as in front of the first that ties with it.
use Rattle.std.proofs.Common.{◌≡◌, ℕ, ◌+◌, ◌<◌, suc, Bool, true, false, cond, List, [], ◌∷◌, length, map, get_or, refl, sym, ◌∙◌, ap, subst, inl, inr, arith}
use Rattle.std.specs.Prelude.{count_by, not}
use Rattle.std.specs.List.{list_all}
use Rattle.std.specs.List.Sorted.{IsSortedBy}
use Rattle.std.specs.Ordering.{is_lt, ordering_reverse}
use Rattle.std.specs.declared.cmp.Ordering.{Ordering}
use Rattle.std.specs.declared.cmp.Ordering.TheVariants.{Less, Equal, Greater}
use Rattle.std.specs.Cmp.{IsTotalOrder, IsStrictWeakOrder}
use Rattle.std.proofs.lemmas.Cmp.{tied_itself}
use Rattle.std.proofs.lemmas.List.MinMax.{ranks_by}
use Rattle.selections.proofs.Means.{all_weaker, and_first, and_second, and_both, turned_back}
use Rattle.spdx_meaning.specs.Sets.{In, AllLater}
use Rattle.spdx_meaning.proofs.Counted.{count-cons}
use Rattle.spdx_meaning.proofs.RanksIn.{all_in}

negated : (a : Bool) → a ≡ false → not a ≡ true
negated true e = let bad : true ≡ false = e in cc
negated false e = refl

module _ {K : Type 0} (cmp : K → K → Ordering) (o : IsTotalOrder cmp) where
  abbrev pub lower : K → K → Bool
  lower q r = is_lt (cmp q r)

  weak : IsStrictWeakOrder lower
  weak = ranks_by o (λ (k : K). k)

  -- none of those behind it is before it
  abbrev pub Rises : List K → Type 0
  Rises ks = AllLater (λ x y. not (lower y x)) ks

  module _ {X : Type 0} (f : X → K) where
    abbrev by : X → X → Bool
    by x y = lower (f x) (f y)

    rest_sorted : (x : X) (xs : List X) → IsSortedBy by (x ∷ xs) → IsSortedBy by xs
    rest_sorted x xs h k d low up =
        let e : suc k + 1 ≡ suc (k + 1) = omega arith in
        subst (λ (n : ℕ). by (get_or (x ∷ xs) n d) (get_or (x ∷ xs) (suc k) d) ≡ false) e (h (suc k) d (omega arith) (omega (arith, up)))

    later_not_less : (x : X) (xs : List X) → IsSortedBy by (x ∷ xs) → list_all (λ y. not (lower y (f x))) (map f xs) ≡ true
    later_not_less x [] h = refl
    later_not_less x (y ∷ ys) h =
        let e : 0 + 1 ≡ 1 = omega arith in
        let next : by y x ≡ false = subst (λ (n : ℕ). by (get_or (x ∷ y ∷ ys) n x) x ≡ false) e (h 0 x (omega arith) (omega arith)) in
        and_both (not (by y x)) (list_all (λ z. not (lower z (f x))) (map f ys)) (negated (by y x) next)
        (farther (map f ys) (later_not_less y ys (rest_sorted x (y ∷ ys) h)) next)
      where
        farther : (ks : List K) → list_all (λ z. not (lower z (f y))) ks ≡ true → by y x ≡ false → list_all (λ z. not (lower z (f x))) ks ≡ true
        farther ks all next = all_weaker (λ z. not (lower z (f y))) (λ z. not (lower z (f x))) ks (λ z e. negated (lower z (f x)) (weak.chain z (f y) (f x) (turned_back (lower z (f y)) e) next)) all

    pub rises : (xs : List X) → IsSortedBy by xs → Rises (map f xs)
    rises [] h = tt
    rises (x ∷ xs) h = (later_not_less x xs h, rises xs (rest_sorted x xs h))

  none_before : (x r : K) (ks : List K) → list_all (λ y. not (lower y x)) ks ≡ true → lower x r ≡ false → count_by (λ q. lower q r) ks ≡ 0
  none_before x r [] all e = refl
  none_before x r (y ∷ ys) all e =
      let first : cond {A = ℕ} (lower y r) 1 0 ≡ 0 = ap (λ (b : Bool). cond {A = ℕ} b 1 0) (weak.chain y x r (turned_back (lower y x) (and_first (not (lower y x)) (list_all (λ z. not (lower z x)) ys) all)) e) in
      let rest = none_before x r ys (and_second (not (lower y x)) (list_all (λ z. not (lower z x)) ys) all) e in
      omega (arith, count-cons (λ q. lower q r) y ys, first, rest)

  tied : (x r : K) → lower x r ≡ false → lower r x ≡ false → cmp x r ≡ Equal
  tied x r e k = cases (cmp x r) refl
    where
      cases : (w : Ordering) → cmp x r ≡ w → cmp x r ≡ Equal
      cases Less is = let bad : true ≡ false = sym (ap is_lt is) ∙ e in absurd cc
      cases Equal is = is
      cases Greater is = let bad : true ≡ false = sym (ap is_lt (o.antisymm r x ∙ ap ordering_reverse is)) ∙ k in absurd cc

  -- the one that has so many in front of it
  abbrev pub FirstTie : K → K → List K → ℕ → Type 0
  FirstTie r d ks n = (n < length ks) × (cmp (get_or ks n d) r ≡ Equal)

  pub at_rank : (ks : List K) → Rises ks → (r d : K) → In ks r → FirstTie r d ks (count_by (λ q. lower q r) ks)
  at_rank [] h r d there = absurd there
  at_rank (x ∷ xs) h r d there = step (lower x r) refl (λ k. at_rank xs h.1 r d k)
    where
      p : K → Bool
      p q = lower q r

      itself : x ≡ r → lower x r ≡ false
      itself is = ap (λ (y : K). lower x y) (sym is) ∙ ap is_lt (tied_itself o x)

      step : (b : Bool) → lower x r ≡ b → (In xs r → FirstTie r d xs (count_by p xs)) → FirstTie r d (x ∷ xs) (count_by p (x ∷ xs))
      step true e more = elim there [
        | inl is ↦ let bad : true ≡ false = sym e ∙ itself is in absurd cc
        | inr k ↦
            let rest = more k in
            let one : cond {A = ℕ} (p x) 1 0 ≡ 1 = ap (λ (b : Bool). cond {A = ℕ} b 1 0) e in
            let next : suc (count_by p xs) ≡ count_by p (x ∷ xs) = omega (arith, count-cons p x xs, one) in
            subst (FirstTie r d (x ∷ xs)) next (omega (arith, rest.0), rest.1)
      ]
      step false e more =
          let none : 0 ≡ count_by p (x ∷ xs) =
          omega (arith, count-cons p x xs, ap (λ (b : Bool). cond {A = ℕ} b 1 0) e, none_before x r xs h.0 e) in
          let level : cmp x r ≡ Equal = elim there [
            | inl is ↦ ap (λ (y : K). cmp x y) (sym is) ∙ tied_itself o x
            | inr k ↦ tied x r e (turned_back (lower r x) (all_in (λ y. not (lower y x)) xs r h.0 k))
          ] in
          subst (FirstTie r d (x ∷ xs)) none (omega arith, level)
