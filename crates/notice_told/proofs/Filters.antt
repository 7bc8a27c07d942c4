-- What a filter keeps of one place more of a list.
use Rattle.std.proofs.Common.{◌≡◌, ℕ, ◌+◌, ◌<◌, Bool, ◌||◌, true, false, List, [], ◌∷◌, ◌++◌, length, get_or, map, refl, take, cond, ap, append-nil, sym, ◌∙◌}
use Rattle.std.specs.List.{list_any}
use Rattle.std.specs.Prelude.{filter}
use Rattle.std.proofs.lemmas.List.Elements.{filter_more}

pub kept_more : {X : Type 0} (p : X → Bool) (xs : List X) (i : ℕ) (d : X) (found new : List X)
    → i < length xs → p (get_or xs i d) ≡ true → found ≡ filter p (take i xs) → new ≡ found ++ get_or xs i d ∷ [] → new ≡ filter p (take (i + 1) xs)
kept_more {X} p xs i d found new lt holds before pushed =
    pushed ∙ ap (λ (ys : List X). ys ++ get_or xs i d ∷ []) before
    ∙ sym (filter_more p xs i d lt ∙ ap (λ (b : Bool). filter p (take i xs) ++ cond b (get_or xs i d ∷ []) []) holds)

pub left_more : {X : Type 0} (p : X → Bool) (xs : List X) (i : ℕ) (d : X) (found new : List X)
    → i < length xs → p (get_or xs i d) ≡ false → found ≡ filter p (take i xs) → new ≡ found → new ≡ filter p (take (i + 1) xs)
left_more {X} p xs i d found new lt fails before same =
    same ∙ before
    ∙ sym (filter_more p xs i d lt ∙ ap (λ (b : Bool). filter p (take i xs) ++ cond b (get_or xs i d ∷ []) []) fails ∙ append-nil (filter p (take i xs)))

-- a test of a view
pub any_seen : {X K : Type 0} (f : X → K) (p : K → Bool) (xs : List X) → list_any (λ x. p (f x)) xs ≡ list_any p (map f xs)
any_seen f p [] = refl
any_seen f p (x ∷ xs) = ap (λ (b : Bool). p (f x) || b) (any_seen f p xs)
