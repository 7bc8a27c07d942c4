-- Rows that are numbered, one after another.
use Rattle.std.proofs.Common.{◌≡◌, ℕ, suc, ◌+◌, List, [], ◌∷◌, ◌++◌, length, map, refl, sym, ap, ◌∙◌, arith}
use Rattle.spdx_tables.specs.Places.{numbered}

-- one more row has the next place
pub numbered-append : {A : Type 0} (place : ℕ → A → A) (n : ℕ) (xs : List A) (x : A) → numbered place n (xs ++ x ∷ []) ≡ numbered place n xs ++ place (n + length xs) x ∷ []
numbered-append place n [] x = ap (λ (k : ℕ). place k x ∷ []) (omega arith)
numbered-append place n (y ∷ ys) x = ap (λ zs. place n y ∷ zs) (numbered-append place (suc n) ys x ∙ ap (λ (k : ℕ). numbered place (suc n) ys ++ place k x ∷ []) (omega arith))

pub length-map_lem : {A B : Type 0} (f : A → B) (xs : List A) → length (map f xs) ≡ length xs
length-map_lem f [] = refl
length-map_lem f (x ∷ xs) = ap suc (length-map_lem f xs)

-- the same of rows and what they show
pub numbered-shown : {R A : Type 0} (place : ℕ → A → A) (shown : R → A) (xs : List R) (r : R) (a : A) (n : ℕ) → n ≡ length xs → a ≡ place n (shown r)
    → numbered place 0 (map shown xs) ++ a ∷ [] ≡ numbered place 0 (map shown xs ++ shown r ∷ [])
numbered-shown place shown xs r a n is at =
    ap (λ (b : _). numbered place 0 (map shown xs) ++ b ∷ []) (at ∙ ap (λ (k : ℕ). place k (shown r)) (is ∙ sym (length-map_lem shown xs) ∙ omega arith))
    ∙ sym (numbered-append place 0 (map shown xs) (shown r))
