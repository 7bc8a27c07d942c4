-- Lists of sets, where each element becomes another one and the order stays.
use Rattle.std.proofs.Common.{◌≡◌, ℕ, Bool, ◌&&◌, ◌||◌, List, [], ◌∷◌, length, map, refl, ◌∙◌, ap}
use Rattle.std.specs.Prelude.{not}
use Rattle.std.specs.List.{list_any, list_all, AllByRecursion}
use Rattle.std.specs.Ordering.{nat_cmp, ordering_then}
use Rattle.std.specs.declared.cmp.Ordering.{Ordering}
use Rattle.std.specs.Cmp.Lexicographic.{slice_cmp}
use Rattle.std.proofs.lemmas.List.{length-map}
use Rattle.spdx_meaning.specs.Sets.{AllLater, includes, differ, sets_cmp}

module _ {X Y : Type 0} (In : X → Type 0) (f : X → Y) where
  pub mapped_all : (p : X → Bool) (q : Y → Bool) → ((x : X) → In x → q (f x) ≡ p x) → (xs : List X) → AllByRecursion In xs → list_all q (map f xs) ≡ list_all p xs
  mapped_all p q h [] all = refl
  mapped_all p q h (x ∷ xs) all = ap (λ (b : Bool). b && list_all q (map f xs)) (h x all.0) ∙ ap (λ (b : Bool). p x && b) (mapped_all p q h xs all.1)

  pub mapped_any : (p : X → Bool) (q : Y → Bool) → ((x : X) → In x → q (f x) ≡ p x) → (xs : List X) → AllByRecursion In xs → list_any q (map f xs) ≡ list_any p xs
  mapped_any p q h [] all = refl
  mapped_any p q h (x ∷ xs) all = ap (λ (b : Bool). b || list_any q (map f xs)) (h x all.0) ∙ ap (λ (b : Bool). p x || b) (mapped_any p q h xs all.1)

  pub mapped_later : (R : X → X → Bool) (S : Y → Y → Bool) → ((x y : X) → In x → In y → S (f x) (f y) ≡ R x y) → (xs : List X) → AllByRecursion In xs → AllLater R xs → AllLater S (map f xs)
  mapped_later R S h [] all k = tt
  mapped_later R S h (x ∷ xs) all k = (mapped_all (R x) (S (f x)) (λ y there. h x y all.0 there) xs all.1 ∙ k.0, mapped_later R S h xs all.1 k.1)

  pub mapped_includes : (same : X → X → Bool) (same' : Y → Y → Bool) → ((x y : X) → In x → In y → same' (f x) (f y) ≡ same x y) → (s m : List X) → AllByRecursion In s → AllByRecursion In m → includes same' (map f s) (map f m) ≡ includes same s m
  mapped_includes same same' h s m a b =
      mapped_all (λ x. list_any (λ y. same y x) s) (λ z. list_any (λ y. same' y z) (map f s))
      (λ x there. mapped_any (λ y. same y x) (λ y. same' y (f x)) (λ y here. h y x here there) s a) m b

  pub mapped_differ : (same : X → X → Bool) (same' : Y → Y → Bool) → ((x y : X) → In x → In y → same' (f x) (f y) ≡ same x y) → (s m : List X) → AllByRecursion In s → AllByRecursion In m → differ same' (map f s) (map f m) ≡ differ same s m
  mapped_differ same same' h s m a b =
      ap (λ (z : Bool). not z && not (includes same' (map f m) (map f s))) (mapped_includes same same' h s m a b)
      ∙ ap (λ (z : Bool). not (includes same s m) && not z) (mapped_includes same same' h m s b a)

  pub mapped_cmp : (cmp : X → X → Ordering) (cmp' : Y → Y → Ordering) → ((x y : X) → In x → In y → cmp' (f x) (f y) ≡ cmp x y) → (s m : List X) → AllByRecursion In s → AllByRecursion In m → slice_cmp cmp' (map f s) (map f m) ≡ slice_cmp cmp s m
  mapped_cmp cmp cmp' h [] [] a b = refl
  mapped_cmp cmp cmp' h [] (y ∷ ys) a b = refl
  mapped_cmp cmp cmp' h (x ∷ xs) [] a b = refl
  mapped_cmp cmp cmp' h (x ∷ xs) (y ∷ ys) a b =
      ap (λ (o : Ordering). ordering_then o (slice_cmp cmp' (map f xs) (map f ys))) (h x y a.0 b.0) ∙ ap (ordering_then (cmp x y)) (mapped_cmp cmp cmp' h xs ys a.1 b.1)

  pub mapped_sets_cmp : (cmp : X → X → Ordering) (cmp' : Y → Y → Ordering) → ((x y : X) → In x → In y → cmp' (f x) (f y) ≡ cmp x y) → (s m : List X) → AllByRecursion In s → AllByRecursion In m → sets_cmp cmp' (map f s) (map f m) ≡ sets_cmp cmp s m
  mapped_sets_cmp cmp cmp' h s m a b =
      ap (λ (n : ℕ). ordering_then (nat_cmp n (length (map f m))) (slice_cmp cmp' (map f s) (map f m))) (length-map s f)
      ∙ ap (λ (n : ℕ). ordering_then (nat_cmp (length s) n) (slice_cmp cmp' (map f s) (map f m))) (length-map m f)
      ∙ ap (ordering_then (nat_cmp (length s) (length m))) (mapped_cmp cmp cmp' h s m a b)
