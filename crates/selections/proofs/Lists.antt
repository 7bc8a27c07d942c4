-- Tests of lists whose elements are seen through a function.
use Rattle.std.proofs.Common.{◌≡◌, ℕ, zero, suc, ◌+◌, ◌<◌, Bool, true, false, ◌||◌, cond, List, [], ◌∷◌, length, map, get_or, refl, ap, ◌∙◌, arith}
use Rattle.std.specs.List.Sorted.{IsSortedBy}
use Rattle.std.specs.List.{list_any, filter}

pub list_any-map : {X Y : Type 0} (p : X → Bool) (h : Y → X) (ys : List Y) → list_any p (map h ys) ≡ list_any (λ y. p (h y)) ys
list_any-map p h [] = refl
list_any-map p h (y ∷ ys) = ap (λ (b : Bool). p (h y) || b) (list_any-map p h ys)

kept : {X Y : Type 0} (h : Y → X) (b : Bool) (y : Y) (ys : List Y) → map h (cond b (y ∷ ys) ys) ≡ cond b (h y ∷ map h ys) (map h ys)
kept h true y ys = refl
kept h false y ys = refl

pub filter-map : {X Y : Type 0} (p : X → Bool) (h : Y → X) (ys : List Y) → map h (filter (λ y. p (h y)) ys) ≡ filter p (map h ys)
filter-map p h [] = refl
filter-map {X} p h (y ∷ ys) = kept h (p (h y)) y (filter (λ z. p (h z)) ys) ∙ ap (λ (z : List X). cond (p (h y)) (h y ∷ z) z) (filter-map p h ys)

length_map : {X Y : Type 0} (h : Y → X) (ys : List Y) → length (map h ys) ≡ length ys
length_map h [] = refl
length_map h (y ∷ ys) = ap suc (length_map h ys)

get_map : {X Y : Type 0} (h : Y → X) (ys : List Y) (k : ℕ) (d : X) (e : Y) → k < length ys → get_or (map h ys) k d ≡ h (get_or ys k e)
get_map h [] k d e lt = absurd (omega arith)
get_map h (y ∷ ys) zero d e lt = refl
get_map h (y ∷ ys) (suc k) d e lt = get_map h ys k d e (omega arith)

pub sorted-map : {X Y : Type 0} (h : Y → X) (lt : X → X → Bool) (ys : List Y) → IsSortedBy (λ x y. lt (h x) (h y)) ys → IsSortedBy lt (map h ys)
sorted-map h lt [] up k d low high = absurd (omega arith)
sorted-map h lt (y ∷ ys) up k d low high =
    let within : k + 1 < length (y ∷ ys) = omega (arith, high, length_map h (y ∷ ys)) in
    ap (λ z. lt z (get_or (map h (y ∷ ys)) k d)) (get_map h (y ∷ ys) (k + 1) d y within)
    ∙ ap (lt (h (get_or (y ∷ ys) (k + 1) y))) (get_map h (y ∷ ys) k d y (omega (arith, within)))
    ∙ up k y low within
