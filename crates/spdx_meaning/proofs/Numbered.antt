-- Among some that are in order, each with its place, the first that doesn't stand before one has its least place.
use Rattle.std.proofs.Common.{◌≡◌, ◌⊎◌, ℕ, zero, suc, ◌+◌, ◌<◌, ◌≤◌, Bool, true, false, List, [], ◌∷◌, length, map, get_or, refl, sym, ◌∙◌, ap, subst, inl, inr, arith}
use Rattle.std.specs.Ordering.{nat_cmp, ordering_then, is_lt, ordering_reverse}
use Rattle.std.specs.declared.cmp.Ordering.{Ordering}
use Rattle.std.specs.declared.cmp.Ordering.TheVariants.{Less, Equal, Greater}
use Rattle.std.specs.Cmp.{IsTotalOrder}
use Rattle.std.specs.List.Sorted.{IsPermutation, IsSortedBy, IsPartitionedBy, IsPartitionPoint}
use Rattle.std.proofs.lemmas.Bool.Decides.{nat_tests}
use Rattle.std.proofs.lemmas.Bool.{cases_lt}
use Rattle.std.proofs.lemmas.Cmp.{nat_cmp_total, on_total, then_total, tied_itself}
use Rattle.std.proofs.lemmas.List.{length-map, get_or-map}
use Rattle.std.proofs.lemmas.List.MinMax.{ranks_by}
use Rattle.std.proofs.lemmas.List.Sorted.{IsPermutation-sym, Contains-permutation, length_permutation, sorted_far}
use Rattle.spdx_meaning.specs.Placed.{numbered, numbered_cmp}
use Rattle.spdx_meaning.proofs.Parted.{parted}

-- ---- each with its place

pub length-numbered : {K : Type 0} (n : ℕ) (qs : List K) → length (numbered n qs) ≡ length qs
length-numbered n [] = refl
length-numbered n (q ∷ qs) = omega (arith, length-numbered (n + 1) qs)

numbered_at : {K : Type 0} (n : ℕ) (qs : List K) (k : ℕ) (d : K) (e : K × ℕ) → k < length qs → get_or (numbered n qs) k e ≡ (get_or qs k d, n + k)
numbered_at n [] k d e lt = absurd (omega arith)
numbered_at n (q ∷ qs) zero d e lt = ap (λ (m : ℕ). (q, m)) (let is : n ≡ n + 0 = omega arith in is)
numbered_at n (q ∷ qs) (suc k) d e lt =
    numbered_at (n + 1) qs k d e (omega arith) ∙ ap (λ (m : ℕ). (get_or qs k d, m)) (let is : n + 1 + k ≡ n + suc k = omega arith in is)

pub some_or_none : {X : Type 0} (xs : List X) → (length xs ≡ 0) ⊎ X
some_or_none [] = inl refl
some_or_none (x ∷ xs) = inr x

-- ---- the order of those with places

module _ {K : Type 0} (cmp : K → K → Ordering) (o : IsTotalOrder cmp) where
  pub numbered_total : IsTotalOrder (numbered_cmp cmp)
  numbered_total = then_total (on_total (λ (x : K × ℕ). x.0) o) (on_total (λ (x : K × ℕ). x.1) nat_cmp_total)

  -- no place stands before 0
  first_alone : (q r : K) (n : ℕ) → is_lt (numbered_cmp cmp (q, n) (r, 0)) ≡ is_lt (cmp q r)
  first_alone q r n = cases (cmp q r)
    where
      none : is_lt (nat_cmp n 0) ≡ false
      none = grind (arith, nat_tests)

      cases : (w : Ordering) → is_lt (ordering_then w (nat_cmp n 0)) ≡ is_lt w
      cases Less = refl
      cases Equal = none
      cases Greater = refl

  lower_place : (x y : K × ℕ) → cmp x.0 y.0 ≡ Equal → x.1 < y.1 → is_lt (numbered_cmp cmp x y) ≡ true
  lower_place x y e lt =
      let less : nat_cmp x.1 y.1 ≡ Less = grind (arith, nat_tests, lt) in
      ap (λ (w : Ordering). is_lt (ordering_then w (nat_cmp x.1 y.1))) e ∙ ap is_lt less

  lower_key : (x y : K × ℕ) → cmp x.0 y.0 ≡ Less → is_lt (numbered_cmp cmp x y) ≡ true
  lower_key x y e = ap (λ (w : Ordering). is_lt (ordering_then w (nat_cmp x.1 y.1))) e

  above_is : (q r : K) → is_lt (cmp q r) ≡ false → (cmp q r ≡ Equal → ⊥) → cmp r q ≡ Less
  above_is q r not_below apart = o.antisymm r q ∙ ap ordering_reverse (cases (cmp q r) refl)
    where
      cases : (w : Ordering) → cmp q r ≡ w → w ≡ Greater
      cases Less e = let bad : true ≡ false = sym (ap is_lt e) ∙ not_below in cc
      cases Equal e = absurd (apart e)
      cases Greater e = refl

  -- so many stand before the first that ties; where none does, so many there are
  pub record IsFirstTie (qs : List K) (r : K) (k : ℕ) : Type 0 where
    pub within : k ≤ length qs
    pub tied : k < length qs → cmp (get_or qs k r) r ≡ Equal
    pub none : (j : ℕ) → j < k → cmp (get_or qs j r) r ≡ Equal → ⊥

  module _ {X : Type 0} (f : X → K × ℕ) where
    pub parted_by_key : (xs : List X) (r : K) → IsSortedBy (λ x y. is_lt (numbered_cmp cmp (f x) (f y))) xs → IsPartitionedBy (λ x. is_lt (cmp (f x).0 r)) xs
    parted_by_key xs r up = subst (λ (p : X → Bool). IsPartitionedBy p xs) (λ i x. first_alone (f x).0 r (f x).1 i) (parted (numbered_cmp cmp) numbered_total f xs (r, 0) up)

    -- one of those that are numbered stands among these
    there : (qs : List K) (xs : List X) → IsPermutation (numbered 0 qs) (map f xs) → (j : ℕ) (d : K) (x : X) → j < length qs → (m : ℕ) × (m < length xs) × (f (get_or xs m x) ≡ (get_or qs j d, j))
    there qs xs same j d x lt =
        let q : K × ℕ = (get_or qs j d, j) in
        let at : get_or (numbered 0 qs) j q ≡ q = numbered_at 0 qs j d q lt ∙ ap (λ (n : ℕ). (get_or qs j d, n)) (let is : 0 + j ≡ j = omega arith in is) in
        let one = Contains-permutation (numbered 0 qs) (map f xs) q same (j, omega (arith, length-numbered 0 qs), at) in
        let within : one.0 < length xs = omega (arith, one.1, length-map xs f) in
        (one.0, within, sym (get_or-map f xs one.0 x q within) ∙ one.2)

    module _ (qs : List K) (xs : List X) (r : K) (up : IsSortedBy (λ x y. is_lt (numbered_cmp cmp (f x) (f y))) xs) (same : IsPermutation (numbered 0 qs) (map f xs)) where
      -- one of these is numbered
      back : (i : ℕ) (x : X) → i < length xs → ((f (get_or xs i x)).1 < length qs) × (get_or qs (f (get_or xs i x)).1 r ≡ (f (get_or xs i x)).0)
      back i x lt =
          let e = f (get_or xs i x) in
          let at : get_or (map f xs) i e ≡ e = get_or-map f xs i x e lt in
          let one = Contains-permutation (map f xs) (numbered 0 qs) e (IsPermutation-sym (numbered 0 qs) (map f xs) same) (i, omega (arith, length-map xs f), at) in
          let within : one.0 < length qs = omega (arith, one.1, length-numbered 0 qs) in
          let is : (get_or qs one.0 r, 0 + one.0) ≡ e = sym (numbered_at 0 qs one.0 r e within) ∙ one.2 in
          let place : one.0 ≡ e.1 = (let h : one.0 ≡ 0 + one.0 = omega arith in h) ∙ ap (λ (z : K × ℕ). z.1) is in
          (omega (arith, place, within), ap (λ (n : ℕ). get_or qs n r) (sym place) ∙ ap (λ (z : K × ℕ). z.0) is)

      module _ (i : ℕ) (point : IsPartitionPoint (λ x. is_lt (cmp (f x).0 r) ≡ true) (λ x. is_lt (cmp (f x).0 r) ≡ false) xs i) where
        -- what ties doesn't stand before the first that isn't less
        tied_there : (j : ℕ) (x : X) → j < length qs → cmp (get_or qs j r) r ≡ Equal → (i < length xs) × (is_lt (numbered_cmp cmp (get_or qs j r, j) (f (get_or xs i x))) ≡ false)
        tied_there j x lt tie =
            let one = there qs xs same j r x lt in
            elim (cases_lt one.0 i) [
              | inl h ↦
                  let less : is_lt (cmp (get_or qs j r) r) ≡ true = ap (λ (z : K × ℕ). is_lt (cmp z.0 r)) (sym one.2) ∙ point.0 one.0 x (omega arith) h in
                  let bad : true ≡ false = sym less ∙ ap is_lt tie in
                  absurd cc
              | inr h ↦
                  (omega (arith, h, one.1), ap (λ (z : K × ℕ). is_lt (numbered_cmp cmp z (f (get_or xs i x)))) (sym one.2) ∙ sorted_far (λ x y. is_lt (numbered_cmp cmp (f x) (f y))) (ranks_by numbered_total f) xs up i one.0 x h one.1)
            ]

        pub found : (x : X) → i < length xs → cmp (f (get_or xs i x)).0 r ≡ Equal → IsFirstTie qs r (f (get_or xs i x)).1
        found x lt tie =
            let e = f (get_or xs i x) in
            let there = back i x lt in
            record {
              within = omega (arith, there.0);
              tied = λ h. ap (λ (q : K). cmp q r) there.1 ∙ tie;
              none = λ j h k.
                  let apart = tied_there j x (omega (arith, h, there.0)) k in
                  let level : cmp (get_or qs j r) e.0 ≡ Equal = o.congr (get_or qs j r) r e.0 k ∙ sym (o.congr e.0 r e.0 tie) ∙ tied_itself o e.0 in
                  let bad : true ≡ false = sym (lower_place (get_or qs j r, j) e level h) ∙ apart.1 in
                  cc;
            }

        pub missing : ((x : X) → i < length xs → cmp (f (get_or xs i x)).0 r ≡ Equal → ⊥) → IsFirstTie qs r (length xs)
        missing none =
            let many : length xs ≡ length qs = sym (length-map xs f) ∙ length_permutation (numbered 0 qs) (map f xs) same ∙ length-numbered 0 qs in
            record {
              within = omega arith;
              tied = λ h. absurd (omega arith);
              none = λ j h k. elim (some_or_none xs) [
                | inl empty ↦ absurd (omega arith)
                | inr x ↦
                    let e = f (get_or xs i x) in
                    let apart = tied_there j x (omega (arith, h)) k in
                    let above : is_lt (cmp e.0 r) ≡ false = point.1 i x (omega arith) apart.0 in
                    let less : cmp (get_or qs j r) e.0 ≡ Less = o.congr (get_or qs j r) r e.0 k ∙ above_is e.0 r above (none x apart.0) in
                    let bad : true ≡ false = sym (lower_key (get_or qs j r, j) e less) ∙ apart.1 in
                    absurd cc
              ];
            }
