-- The ends of paths, one after the other.
use Rattle.std.proofs.Common.{◌≡◌, ℕ, ◌+◌, ◌<◌, List, [], ◌∷◌, ◌++◌, get_or, length, map, take, subst, sym}
use Rattle.std.specs.Borrow.{Bor}
use Rattle.std.specs.List.{AllZip}
use Rattle.std.proofs.lemmas.List.{map_more}
use Rattle.fix_program.specs.Runs.{path_in}

push : {A B : Type 0} (R : A → B → Type 0) (xs : List A) (ys : List B) (x : A) (y : B) → AllZip R xs ys → R x y → AllZip R (xs ++ x ∷ []) (ys ++ y ∷ [])
push R [] [] x y h r = (r, tt)
push R [] (b ∷ ys) x y h r = absurd h
push R (a ∷ xs) [] x y h r = absurd h
push R (a ∷ xs) (b ∷ ys) x y h r = (h.0, push R xs ys x y h.1 r)

-- that of one more path
pub one_more : {B : Type 0} (R : List ℕ → B → Type 0) (paths : List (Bor (List ℕ))) (i : ℕ) (d : Bor (List ℕ)) (ends new : List B) (end : B) → i < length paths
    → AllZip R (map path_in (take i paths)) ends → R (get_or paths i d).now end → new ≡ ends ++ end ∷ []
    → AllZip R (map path_in (take (i + 1) paths)) new
one_more {B} R paths i d ends new end lt h r e =
    subst (λ (ps : List (List ℕ)). AllZip R ps new) (sym (map_more path_in paths i d lt))
    (subst (λ (es : List B). AllZip R (map path_in (take i paths) ++ (get_or paths i d).now ∷ []) es) (sym e) (push R (map path_in (take i paths)) ends (get_or paths i d).now end h r))
