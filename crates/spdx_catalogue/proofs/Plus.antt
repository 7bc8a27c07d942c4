-- Taking `+` off the end, one at a time.
use Rattle.std.proofs.Common.{◌≡◌, ℕ, ◌+◌, ◌<◌, Bool, true, false, ◌&&◌, List, [], ◌∷◌, ◌++◌, length, take, get_or, refl, ◌∙◌, ap}
use Rattle.std.specs.List.{list_all}
use Rattle.std.proofs.lemmas.List.{take_more}
use Rattle.spdx_catalogue.specs.Names.{is_plus, without_plus}

and_assoc : (a b c : Bool) → a && (b && c) ≡ (a && b) && c
and_assoc true b c = refl
and_assoc false b c = refl

and_true : (a : Bool) → a && true ≡ a
and_true true = refl
and_true false = refl

and_false : (a : Bool) → a && false ≡ false
and_false true = refl
and_false false = refl

all_snoc : (p : ℕ → Bool) (xs : List ℕ) (b : ℕ) → list_all p (xs ++ b ∷ []) ≡ list_all p xs && p b
all_snoc p [] b = and_true (p b)
all_snoc p (x ∷ xs) b = ap (λ t. p x && t) (all_snoc p xs b) ∙ and_assoc (p x) (list_all p xs) (p b)

pub plus_off : (xs : List ℕ) → without_plus (xs ++ 43 ∷ []) ≡ without_plus xs
plus_off [] = refl
plus_off (x ∷ xs) = rw (all_snoc is_plus xs 43, and_true (list_all is_plus xs), plus_off xs)

pub other_stays : (xs : List ℕ) (b : ℕ) → is_plus b ≡ false → without_plus (xs ++ b ∷ []) ≡ xs ++ b ∷ []
other_stays [] b h = rw h
other_stays (x ∷ xs) b h = rw (all_snoc is_plus xs b, h, and_false (list_all is_plus xs), and_false (is_plus x), other_stays xs b h)

pub one_off : (xs : List ℕ) (i : ℕ) → i < length xs → get_or xs i 0 ≡ 43 → without_plus (take (i + 1) xs) ≡ without_plus (take i xs)
one_off xs i lt e = rw (take_more xs i 0 lt, e) (plus_off (take i xs))

pub stops : (xs : List ℕ) (i : ℕ) → i < length xs → is_plus (get_or xs i 0) ≡ false → without_plus (take (i + 1) xs) ≡ take (i + 1) xs
stops xs i lt e = rw (take_more xs i 0 lt) (other_stays (take i xs) (get_or xs i 0) e)
