-- Rows and what they show.
use Rattle.std.proofs.Common.{◌≡◌, ℕ, zero, suc, ◌<◌, Bool, true, false, cond, List, [], ◌∷◌, length, get_or, map, Some, None, option_map, find, refl, sym, ◌∙◌, ap}
use Rattle.std.specs.Prelude.{slice_get, bytes_eq}
use Rattle.std.specs.List.{HoldsAt}
use Rattle.std.specs.List.Sorted.{IsPartitionPoint}
use Rattle.std.specs.Ordering.{nat_cmp}
use Rattle.std.specs.declared.cmp.Ordering.TheVariants.{Less, Equal, Greater}
use Rattle.std.specs.Cmp.Lexicographic.{slice_cmp}
use Rattle.std.proofs.lemmas.Option.{slice_get-map}
use Rattle.spdx_catalogue.specs.Ascent.{Ascends}
use Rattle.spdx_catalogue.proofs.Sorted.{finds_here, finds_none}

pub find_map : {A B : Type 0} (p : B → Bool) (f : A → B) (xs : List A) → find p (map f xs) ≡ option_map f (find (λ x. p (f x)) xs)
find_map p f [] = refl
find_map {A} {B} p f (x ∷ xs) = pick (p (f x)) (find_map p f xs)
  where
    pick : (b : Bool) → find p (map f xs) ≡ option_map f (find (λ x. p (f x)) xs) → cond b (Some (f x)) (find p (map f xs)) ≡ option_map f (cond b (Some x) (find (λ x. p (f x)) xs))
    pick true e = refl
    pick false e = e

pub length_map : {A B : Type 0} (f : A → B) (xs : List A) → length (map f xs) ≡ length xs
length_map f [] = refl
length_map f (x ∷ xs) = ap suc (length_map f xs)

get_map : {A B : Type 0} (f : A → B) (xs : List A) (i : ℕ) (d : A) → get_or (map f xs) i (f d) ≡ f (get_or xs i d)
get_map f [] i d = refl
get_map f (x ∷ xs) zero d = refl
get_map f (x ∷ xs) (suc i) d = get_map f xs i d

-- what a search by halving finds in rows whose rows_shown keys ascend is what a walk finds in what they show
module _ {A B : Type 0} (show : A → B) (key : B → List ℕ) where
  pub shown_ascends : (rows : List A) → Ascends key (map show rows) → Ascends (λ r. key (show r)) rows
  unfolding Ascends
  shown_ascends rows h i d lt =
      let e = h i (show d) (rw (length_map show rows) lt) in
      rw (get_map show rows i d, get_map show rows (suc i) d) at e

  pub found_at : (rows : List A) → Ascends key (map show rows) → (q : List ℕ) (i : ℕ) → i < length rows → HoldsAt (λ y. slice_cmp nat_cmp (key (show y)) q ≡ Equal) rows i
      → slice_get (map show rows) i ≡ find (λ r. bytes_eq (key r) q) (map show rows)
  found_at rows up q i lt here =
      slice_get-map show rows i ∙ ap (option_map show) (sym (finds_here (λ r. key (show r)) rows (shown_ascends rows up) q i lt here)) ∙ sym (find_map (λ r. bytes_eq (key r) q) show rows)

  pub found_nowhere : (rows : List A) (q : List ℕ) (i : ℕ) → IsPartitionPoint (λ y. slice_cmp nat_cmp (key (show y)) q ≡ Less) (λ y. slice_cmp nat_cmp (key (show y)) q ≡ Greater) rows i
      → None ≡ find (λ r. bytes_eq (key r) q) (map show rows)
  found_nowhere rows q i split =
      ap (option_map show) (sym (finds_none (λ r. key (show r)) rows q i split)) ∙ sym (find_map (λ r. bytes_eq (key r) q) show rows)
