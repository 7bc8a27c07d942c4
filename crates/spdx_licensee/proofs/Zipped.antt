-- Lists that are related place by place, one element more.
use Rattle.std.proofs.Common.{◌≡◌, ℕ, ◌+◌, ◌<◌, List, [], ◌∷◌, ◌++◌, length, get_or, take, map, sym, ap, subst, ◌∙◌}
use Rattle.std.specs.List.{AllZip}
use Rattle.std.proofs.lemmas.List.{take_more, map-append}

zip_push : {A B : Type 0} (R : A → B → Type 0) (xs : List A) (ys : List B) (x : A) (y : B) → AllZip R xs ys → R x y → AllZip R (xs ++ x ∷ []) (ys ++ y ∷ [])
zip_push R [] [] x y h r = (r, h)
zip_push R [] (b ∷ ys) x y h r = absurd h
zip_push R (a ∷ xs) [] x y h r = absurd h
zip_push R (a ∷ xs) (b ∷ ys) x y h r = (h.0, zip_push R xs ys x y h.1 r)

pub zip_more : {A B C D : Type 0} (R : A → B → Type 0) (f : C → A) (g : D → B) (xs : List C) (i : ℕ) (d : C) (ys new : List D) (y : D)
    → i < length xs → new ≡ ys ++ y ∷ [] → AllZip R (map f (take i xs)) (map g ys) → R (f (get_or xs i d)) (g y) → AllZip R (map f (take (i + 1) xs)) (map g new)
zip_more R f g xs i d ys new y lt is all here =
    let x = get_or xs i d in
    let from : map f (take (i + 1) xs) ≡ map f (take i xs) ++ f x ∷ [] = ap (map f) (take_more xs i d lt) ∙ map-append f (take i xs) (x ∷ []) in
    let to : map g new ≡ map g ys ++ g y ∷ [] = ap (map g) is ∙ map-append g ys (y ∷ []) in
    subst (λ zs. AllZip R zs (map g new)) (sym from) (subst (λ zs. AllZip R (map f (take i xs) ++ f x ∷ []) zs) (sym to) (zip_push R (map f (take i xs)) (map g ys) (f x) (g y) all here))
