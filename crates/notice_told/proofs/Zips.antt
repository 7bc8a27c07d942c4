-- Lists whose places match.
use Rattle.std.proofs.Common.{◌≡◌, ℕ, ◌+◌, ◌<◌, List, [], ◌∷◌, ◌++◌, length, map, take, ◌∙◌, ap, sym, subst, get_or}
use Rattle.std.specs.List.{AllZip}
use Rattle.std.proofs.lemmas.List.{take_more}

zip_push : {A B : Type 0} (R : A → B → Type 0) (xs : List A) (ys : List B) (x : A) (y : B) → AllZip R xs ys → R x y → AllZip R (xs ++ x ∷ []) (ys ++ y ∷ [])
zip_push R [] [] x y h r = (r, h)
zip_push R [] (b ∷ ys) x y h r = absurd h
zip_push R (a ∷ xs) [] x y h r = absurd h
zip_push R (a ∷ xs) (b ∷ ys) x y h r = (h.0, zip_push R xs ys x y h.1 r)

-- one place more of the first list, with what is pushed to the second
pub one_more : {A B : Type 0} (R : A → B → Type 0) (xs : List A) (i : ℕ) (d x : A) (ys more : List B) (y : B)
    → AllZip R (take i xs) ys → i < length xs → x ≡ get_or xs i d → R x y → more ≡ ys ++ y ∷ [] → AllZip R (take (i + 1) xs) more
one_more {A} {B} R xs i d x ys more y h lt is r e =
    let next : take (i + 1) xs ≡ take i xs ++ x ∷ [] = take_more xs i d lt ∙ ap (λ (z : A). take i xs ++ z ∷ []) (sym is) in
    subst (λ (z : List B). AllZip R (take (i + 1) xs) z) (sym e) (subst (λ (z : List A). AllZip R z (ys ++ y ∷ [])) (sym next) (zip_push R (take i xs) ys x y h r))

-- the same of views of both
pub zip_seen : {A B K L : Type 0} (R : K → L → Type 0) (f : A → K) (g : B → L) (xs : List A) (ys : List B) → AllZip (λ x y. R (f x) (g y)) xs ys → AllZip R (map f xs) (map g ys)
zip_seen R f g [] [] h = h
zip_seen R f g [] (y ∷ ys) h = absurd h
zip_seen R f g (x ∷ xs) [] h = absurd h
zip_seen R f g (x ∷ xs) (y ∷ ys) h = (h.0, zip_seen R f g xs ys h.1)

-- the same of a view of the second
pub zip_seen_second : {A B L : Type 0} (R : A → L → Type 0) (g : B → L) (xs : List A) (ys : List B) → AllZip (λ x y. R x (g y)) xs ys → AllZip R xs (map g ys)
zip_seen_second R g [] [] h = h
zip_seen_second R g [] (y ∷ ys) h = absurd h
zip_seen_second R g (x ∷ xs) [] h = absurd h
zip_seen_second R g (x ∷ xs) (y ∷ ys) h = (h.0, zip_seen_second R g xs ys h.1)
