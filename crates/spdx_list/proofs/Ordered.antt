-- Rows that are sorted by what they show.
use Rattle.std.proofs.Common.{◌≡◌, ℕ, zero, suc, ◌+◌, ◌<◌, Bool, List, [], ◌∷◌, length, get_or, map, refl, arith}
use Rattle.std.specs.List.Sorted.{IsSortedBy}
use Rattle.spdx_tables.proofs.Numbered.{length-map_lem}

get_map : {A B : Type 0} (f : A → B) (xs : List A) (i : ℕ) (d : B) (e : A) → i < length xs → get_or (map f xs) i d ≡ f (get_or xs i e)
get_map f [] i d e lt = absurd (omega arith)
get_map f (x ∷ xs) zero d e lt = refl
get_map f (x ∷ xs) (suc i) d e lt = get_map f xs i d e (omega arith)

-- what rows show is sorted where the rows are sorted by it
pub sorted_shown : {A B : Type 0} (f : A → B) (lt : B → B → Bool) (xs : List A) → IsSortedBy (λ x y. lt (f x) (f y)) xs → IsSortedBy lt (map f xs)
sorted_shown f lt [] up k d low high = absurd (omega arith)
sorted_shown f lt (x ∷ xs) up k d low high =
    let within : k + 1 < length (x ∷ xs) = omega (arith, length-map_lem f (x ∷ xs)) in
    rw (get_map f (x ∷ xs) (k + 1) d x within, get_map f (x ∷ xs) k d x (omega arith)) (up k x low within)
