-- Lists whose places match, one place more.
use Rattle.std.proofs.Common.{◌≡◌, ℕ, ◌+◌, ◌<◌, List, [], ◌∷◌, ◌++◌, length, map, take, ◌∙◌, ap, sym, subst, get_or}
use Rattle.std.specs.List.{AllZip, flat_map}
use Rattle.std.specs.Option.{option_to_list}
use Rattle.std.specs.Prelude.{Option}
use Rattle.std.proofs.lemmas.Grind.{flat_map-append}
use Rattle.std.proofs.lemmas.List.{append-nil, map-append, take_more}

pub zip_push : {A B : Type 0} (R : A → B → Type 0) (xs : List A) (ys : List B) (x : A) (y : B) → AllZip R xs ys → R x y → AllZip R (xs ++ x ∷ []) (ys ++ y ∷ [])
zip_push R [] [] x y h r = (r, h)
zip_push R [] (b ∷ ys) x y h r = absurd h
zip_push R (a ∷ xs) [] x y h r = absurd h
zip_push R (a ∷ xs) (b ∷ ys) x y h r = (h.0, zip_push R xs ys x y h.1 r)

-- one place more of a view of the first list
pub one_more : {A K B : Type 0} (R : K → B → Type 0) (f : A → K) (xs : List A) (i : ℕ) (d x : A) (ys : List B) (y : B)
    → AllZip R (map f (take i xs)) ys → i < length xs → x ≡ get_or xs i d → R (f x) y → AllZip R (map f (take (i + 1) xs)) (ys ++ y ∷ [])
one_more {A} {K} {B} R f xs i d x ys y h lt is r =
    let next : map f (take (i + 1) xs) ≡ map f (take i xs) ++ f x ∷ [] =
    ap (map f) (take_more xs i d lt) ∙ map-append f (take i xs) (get_or xs i d ∷ []) ∙ ap (λ (z : A). map f (take i xs) ++ f z ∷ []) (sym is) in
    subst (λ (z : List K). AllZip R z (ys ++ y ∷ [])) (sym next) (zip_push R (map f (take i xs)) ys (f x) y h r)

-- the values of some, and of one more
pub kept_more : {B : Type 0} (each : List (Option B)) (o : Option B) (old new : List B) → old ≡ flat_map option_to_list each → new ≡ old ++ option_to_list o → new ≡ flat_map option_to_list (each ++ o ∷ [])
kept_more {B} each o old new kept more =
    more ∙ ap (λ (z : List B). z ++ option_to_list o) kept
    ∙ sym (flat_map-append option_to_list each (o ∷ []) ∙ ap (λ (z : List B). flat_map option_to_list each ++ z) (append-nil (option_to_list o)))
