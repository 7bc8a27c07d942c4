-- Lists side by side, one place more of the first.
use Rattle.std.proofs.Common.{◌≡◌, ℕ, ◌+◌, ◌<◌, ◌≤◌, zero, suc, List, [], ◌∷◌, ◌++◌, get_or, length, map, take, refl, sym, ap, subst, ◌∙◌, add-one, arith}
use Rattle.std.specs.Borrow.{Bor}
use Rattle.std.specs.Prelude.{Option, None, Some, IfSome, option_map, slice_get}
use Rattle.std.specs.List.{zip}
use Rattle.std.specs.Option.{MatchOption, option_copied, option_to_list}
use Rattle.std.proofs.lemmas.Option.{slice_get_past, slice_get_read}
use Rattle.std.proofs.lemmas.List.{map-append}

-- what is looked up of a list at a place
pub found : {X : Type 0} (xs : List X) (n : ℕ) (o : Option (Bor X)) (P : Bor X → Type 0) → IfSome o (λ x. x.now ≡ get_or xs n x.now)
    → MatchOption o (length xs ≤ n) (λ x. (n < length xs) × P x) → option_copied o ≡ slice_get xs n
found xs n None P is at = sym (slice_get_past xs n at)
found xs n (Some x) P is at = sym (slice_get_read xs (length xs) n x.now refl at.0 is)

module _ {A B K L : Type 0} (v : A → K) (w : B → L) where
  side : (xs : List A) (ys : List B) (i : ℕ) (d : A) → i < length xs
      → zip (map v (take (suc i) xs)) (map w ys) ≡ zip (map v (take i xs)) (map w ys) ++ option_to_list (option_map (λ y. (v (get_or xs i d), w y)) (slice_get ys i))
  side [] ys i d lt = absurd (omega (arith, lt))
  side (x ∷ xs) [] zero d lt = refl
  side (x ∷ xs) [] (suc i) d lt = refl
  side (x ∷ xs) (y ∷ ys) zero d lt = refl
  side (x ∷ xs) (y ∷ ys) (suc i) d lt =
      let rest : i < length xs = omega (arith, lt) in
      ap (λ (z : List (K × L)). (v x, w y) ∷ z) (side xs ys i d rest)

  seen : {C : Type 0} (f : K × L → C) (k : K) (o : Option B) → map f (option_to_list (option_map (λ y. (k, w y)) o)) ≡ option_to_list (option_map (λ y. f (k, w y)) o)
  seen f k None = refl
  seen f k (Some y) = refl

  pub zip_more : {C : Type 0} (f : K × L → C) (xs : List A) (ys : List B) (i : ℕ) (d x : A) (o : Option B) (old new : List C)
      → old ≡ map f (zip (map v (take i xs)) (map w ys)) → i < length xs → x ≡ get_or xs i d → o ≡ slice_get ys i
      → new ≡ old ++ option_to_list (option_map (λ y. f (v x, w y)) o)
      → new ≡ map f (zip (map v (take (i + 1) xs)) (map w ys))
  zip_more {C} f xs ys i d x o old new before lt at is more =
      let k = v (get_or xs i d) in
      more
      ∙ ap (λ (a : A). old ++ option_to_list (option_map (λ y. f (v a, w y)) o)) at
      ∙ ap (λ (z : List C). z ++ option_to_list (option_map (λ y. f (k, w y)) o)) before
      ∙ ap (λ (q : Option B). map f (zip (map v (take i xs)) (map w ys)) ++ option_to_list (option_map (λ y. f (k, w y)) q)) is
      ∙ ap (λ (z : List C). map f (zip (map v (take i xs)) (map w ys)) ++ z) (sym (seen f k (slice_get ys i)))
      ∙ sym (map-append f (zip (map v (take i xs)) (map w ys)) (option_to_list (option_map (λ y. (k, w y)) (slice_get ys i))))
      ∙ ap (map f) (sym (side xs ys i d lt))
      ∙ ap (λ (n : ℕ). map f (zip (map v (take n xs)) (map w ys))) (sym (add-one i))
