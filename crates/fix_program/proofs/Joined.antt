-- Joining what a function gives of each, and joining each by the function, is the same.
use Rattle.std.proofs.Common.{◌≡◌, refl, ap, List, [], ◌∷◌, ◌++◌, map}
use Rattle.std.specs.Prelude.{flat_map}
use Rattle.std.specs.List.{join_by}

others : {X A : Type 0} (f : X → List A) (sep : List A) (xs : List X)
    → flat_map (λ y. sep ++ f y) xs ≡ flat_map (λ part. sep ++ part) (map f xs)
others f sep [] = refl
others f sep (x ∷ xs) = ap (λ r. (sep ++ f x) ++ r) (others f sep xs)

pub joined : {X A : Type 0} (f : X → List A) (sep : List A) (xs : List X)
    → join_by f sep xs ≡ join_by (λ part. part) sep (map f xs)
joined f sep [] = refl
joined f sep (x ∷ xs) = ap (λ r. f x ++ r) (others f sep xs)
