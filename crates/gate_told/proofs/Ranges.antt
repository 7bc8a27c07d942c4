-- What is told of the numbers from 0 on, one more each time.
use Rattle.std.proofs.Common.{◌≡◌, ℕ, ◌+◌, suc, zero, ◌<◌, List, [], ◌∷◌, ◌++◌, flat_map, refl, sym, ap, ◌∙◌, add-zero, add-one, append_assoc, arith}
use Rattle.std.proofs.lemmas.Grind.{flat_map-append}
use Rattle.std.proofs.lemmas.List.{append-nil}
use Rattle.std.specs.List.{range_with_len}

range_last : (a n : ℕ) → range_with_len a (suc n) ≡ range_with_len a n ++ (a + n) ∷ []
range_last a zero = ap (λ (k : ℕ). k ∷ []) (sym (add-zero a))
range_last a (suc n) =
    let e : (a + 1) + n ≡ a + suc n = omega arith in
    ap (λ (ks : List ℕ). a ∷ ks) (range_last (a + 1) n ∙ ap (λ (k : ℕ). range_with_len (a + 1) n ++ k ∷ []) e)

pub flat_range : {A : Type 0} (f : ℕ → List A) (old : List A) (i : ℕ) → old ++ flat_map f (range_with_len 0 (i + 1)) ≡ (old ++ flat_map f (range_with_len 0 i)) ++ f i
flat_range f old i =
    let e : 0 + i ≡ i = omega arith in
    ap (λ (n : ℕ). old ++ flat_map f (range_with_len 0 n)) (add-one i)
    ∙ ap (λ (ks : List ℕ). old ++ flat_map f ks) (range_last 0 i ∙ ap (λ (k : ℕ). range_with_len 0 i ++ k ∷ []) e)
    ∙ ap (λ (xs : List _). old ++ xs) (flat_map-append f (range_with_len 0 i) (i ∷ []))
    ∙ sym (append_assoc old (flat_map f (range_with_len 0 i)) (f i ++ []))
    ∙ ap (λ (xs : List _). (old ++ flat_map f (range_with_len 0 i)) ++ xs) (append-nil (f i))

-- nothing is told where there is nothing for each
pub flat_none : {A : Type 0} (f : ℕ → List A) (a n : ℕ) → ((k : ℕ) → k < a + n → f k ≡ []) → flat_map f (range_with_len a n) ≡ []
flat_none f a zero h = refl
flat_none f a (suc n) h =
    let rest : (k : ℕ) → k < (a + 1) + n → f k ≡ [] = λ k lt. h k (omega arith) in
    ap (λ (xs : List _). xs ++ flat_map f (range_with_len (a + 1) n)) (h a (omega arith)) ∙ flat_none f (a + 1) n rest
