-- Rows whose keys ascend, and what a search by halving finds in them.
use Rattle.std.proofs.Common.{◌≡◌, ℕ, zero, suc, ◌<◌, ◌≤◌, ◌⊎◌, inl, inr, Bool, true, false, List, [], ◌∷◌, length, get_or, Some, None, find, refl, sym, ◌∙◌, ap, arith}
use Rattle.std.specs.Prelude.{slice_get, bytes_eq}
use Rattle.std.specs.Ordering.{nat_cmp, is_eq, ordering_index}
use Rattle.std.specs.declared.cmp.Ordering.{Ordering}
use Rattle.std.specs.declared.cmp.Ordering.TheVariants.{Less, Equal, Greater}
use Rattle.std.specs.Cmp.Lexicographic.{slice_cmp}
use Rattle.std.specs.List.Sorted.{IsNonDecreasingBy, IsPartitionPoint}
use Rattle.std.specs.List.{HoldsAt}
use Rattle.spdx_catalogue.specs.Ascent.{Ascends}
use Rattle.std.proofs.lemmas.Cmp.{nat_list_cmp_total, alike_right}
use Rattle.std.proofs.lemmas.Map.Text.{is_eq-slice_cmp}

abbrev bytes_cmp : List ℕ → List ℕ → Ordering
bytes_cmp = slice_cmp nat_cmp

pub get_is : {A : Type 0} (xs : List A) (i : ℕ) (d : A) → i < length xs → slice_get xs i ≡ Some (get_or xs i d)
get_is [] i d lt = absurd (omega arith)
get_is (x ∷ xs) zero d lt = refl
get_is (x ∷ xs) (suc i) d lt = get_is xs i d (omega arith)

pub find_at : {A : Type 0} (p : A → Bool) (xs : List A) (i : ℕ) (d : A) → i < length xs → p (get_or xs i d) ≡ true → ((k : ℕ) → k < i → p (get_or xs k d) ≡ false) → find p xs ≡ slice_get xs i
find_at p [] i d lt h earlier = absurd (omega arith)
find_at p (x ∷ xs) zero d lt h earlier = rw h
find_at p (x ∷ xs) (suc i) d lt h earlier = rw (earlier zero (omega arith)) (find_at p xs i d (omega arith) h (λ k l. earlier (suc k) (omega arith)))

pub find_nowhere : {A : Type 0} (p : A → Bool) (xs : List A) → ((k : ℕ) (d : A) → k < length xs → p (get_or xs k d) ≡ false) → find p xs ≡ None
find_nowhere p [] h = refl
find_nowhere p (x ∷ xs) h = rw (h zero x (omega arith)) (find_nowhere p xs (λ k d l. h (suc k) d (omega arith)))

pub not_equal : (a b : List ℕ) → (bytes_cmp a b ≡ Less) ⊎ (bytes_cmp a b ≡ Greater) → bytes_eq a b ≡ false
not_equal a b (inl h) = sym (is_eq-slice_cmp a b) ∙ ap is_eq h
not_equal a b (inr h) = sym (is_eq-slice_cmp a b) ∙ ap is_eq h

pub is_equal : (a b : List ℕ) → bytes_cmp a b ≡ Equal → bytes_eq a b ≡ true
is_equal a b h = sym (is_eq-slice_cmp a b) ∙ ap is_eq h

-- what is below b is no greater against q than b is
pub no_greater : (a b q : List ℕ) → bytes_cmp a b ≡ Less → ordering_index (bytes_cmp a q) ≤ ordering_index (bytes_cmp b q)
no_greater a b q less = by (bytes_cmp b q) refl
  where
    top : (o : Ordering) → ordering_index o ≤ 2
    top Less = omega arith
    top Equal = omega arith
    top Greater = omega arith

    by : (o : Ordering) → bytes_cmp b q ≡ o → ordering_index (bytes_cmp a q) ≤ ordering_index o
    by Less e = rw (nat_list_cmp_total.trans a b q less e) (omega arith)
    by Equal e = rw (sym (alike_right nat_list_cmp_total b q a e) ∙ less) (omega arith)
    by Greater e = top (bytes_cmp a q)

module _ {A : Type 0} (key : A → List ℕ) where
  pub far : (xs : List A) → Ascends key xs → (i j : ℕ) (d : A) → i < j → j < length xs → bytes_cmp (key (get_or xs i d)) (key (get_or xs j d)) ≡ Less
  unfolding Ascends
  far xs up i zero d lt in_range = absurd (omega arith)
  far xs up i (suc j) d lt in_range = split (near i j lt) (λ l. far xs up i j d l (omega arith))
    where
      near : (i j : ℕ) → i < suc j → (i < j) ⊎ (i ≡ j)
      near i j lt = grind arith

      split : (i < j) ⊎ (i ≡ j) → (i < j → bytes_cmp (key (get_or xs i d)) (key (get_or xs j d)) ≡ Less) → bytes_cmp (key (get_or xs i d)) (key (get_or xs (suc j) d)) ≡ Less
      split (inl l) rest = nat_list_cmp_total.trans (key (get_or xs i d)) (key (get_or xs j d)) (key (get_or xs (suc j) d)) (rest l) (up j d in_range)
      split (inr e) rest = rw e (up j d in_range)

  pub rises : (xs : List A) → Ascends key xs → (q : List ℕ) → IsNonDecreasingBy (λ y. ordering_index (bytes_cmp (key y) q)) xs
  rises xs up q i j d le in_range = split (near i j le)
    where
      near : (i j : ℕ) → i ≤ j → (i < j) ⊎ (i ≡ j)
      near i j le = grind arith

      split : (i < j) ⊎ (i ≡ j) → ordering_index (bytes_cmp (key (get_or xs i d)) q) ≤ ordering_index (bytes_cmp (key (get_or xs j d)) q)
      split (inl l) = no_greater (key (get_or xs i d)) (key (get_or xs j d)) q (far xs up i j d l in_range)
      split (inr e) = rw e (omega arith)

  -- a row with the key is the first with it
  pub finds : (xs : List A) → Ascends key xs → (q : List ℕ) (i : ℕ) (d : A) → i < length xs → bytes_cmp (key (get_or xs i d)) q ≡ Equal → find (λ y. bytes_eq (key y) q) xs ≡ slice_get xs i
  finds xs up q i d lt e =
      find_at (λ y. bytes_eq (key y) q) xs i d lt (is_equal (key (get_or xs i d)) q e)
      (λ k l. not_equal (key (get_or xs k d)) q (inl (sym (alike_right nat_list_cmp_total (key (get_or xs i d)) q (key (get_or xs k d)) e) ∙ far xs up k i d l lt)))

  pub finds_here : (xs : List A) → Ascends key xs → (q : List ℕ) (i : ℕ) → i < length xs → HoldsAt (λ y. bytes_cmp (key y) q ≡ Equal) xs i → find (λ y. bytes_eq (key y) q) xs ≡ slice_get xs i
  finds_here [] up q i lt h = absurd (omega arith)
  finds_here (x ∷ xs) up q i lt h = finds (x ∷ xs) up q i x lt (h x)

  -- where all below i are less and all others greater, no row has the key
  pub finds_none : (xs : List A) (q : List ℕ) (i : ℕ) → IsPartitionPoint (λ y. bytes_cmp (key y) q ≡ Less) (λ y. bytes_cmp (key y) q ≡ Greater) xs i → find (λ y. bytes_eq (key y) q) xs ≡ None
  finds_none xs q i h = find_nowhere (λ y. bytes_eq (key y) q) xs (λ k d l. not_equal (key (get_or xs k d)) q (split k d l (side k i)))
    where
      side : (k i : ℕ) → (k < i) ⊎ (i ≤ k)
      side k i = grind arith

      split : (k : ℕ) (d : A) → k < length xs → (k < i) ⊎ (i ≤ k) → (bytes_cmp (key (get_or xs k d)) q ≡ Less) ⊎ (bytes_cmp (key (get_or xs k d)) q ≡ Greater)
      split k d l (inl s) = inl (h.0 k d (omega arith) s)
      split k d l (inr s) = inr (h.1 k d s l)
