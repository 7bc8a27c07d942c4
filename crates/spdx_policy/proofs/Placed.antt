-- Places at which a test passes.
use Rattle.std.proofs.Common.{◌≡◌, ℕ, zero, suc, ◌+◌, ◌<◌, Bool, true, false, ◌&&◌, ◌||◌, cond, List, [], ◌∷◌, ◌++◌, length, get_or, take, map, filter, Some, not, refl, sym, ap, ◌∙◌, arith, append-nil}
use Rattle.std.specs.Prelude.{slice_get}
use Rattle.std.specs.List.{position, prefix_len, list_any, list_all}
use Rattle.std.specs.Option.{option_map_or}
use Rattle.std.proofs.lemmas.List.{take_more}
use Rattle.spdx_policy.specs.Scopes.{places_from, places}

length_mapped : {A B : Type 0} (f : A → B) (xs : List A) → length (map f xs) ≡ length xs
length_mapped f [] = refl
length_mapped f (x ∷ xs) = ap suc (length_mapped f xs)

prefix_mapped : {A B : Type 0} (p : B → Bool) (f : A → B) (xs : List A) → prefix_len p (map f xs) ≡ prefix_len (λ x. p (f x)) xs
prefix_mapped p f [] = refl
prefix_mapped p f (x ∷ xs) = ap (λ n. cond (p (f x)) (1 + n) 0) (prefix_mapped p f xs)

-- some of what is shown passes, each of it passes
pub any_map : {A B : Type 0} (p : B → Bool) (f : A → B) (xs : List A) → list_any p (map f xs) ≡ list_any (λ x. p (f x)) xs
any_map p f [] = refl
any_map p f (x ∷ xs) = ap (λ b. p (f x) || b) (any_map p f xs)

pub all_map : {A B : Type 0} (p : B → Bool) (f : A → B) (xs : List A) → list_all p (map f xs) ≡ list_all (λ x. p (f x)) xs
all_map p f [] = refl
all_map p f (x ∷ xs) = ap (λ b. p (f x) && b) (all_map p f xs)

-- the first place among what is shown
pub position_map : {A B : Type 0} (p : B → Bool) (f : A → B) (xs : List A) → position p (map f xs) ≡ position (λ x. p (f x)) xs
position_map p f xs = rw (prefix_mapped (λ x. not (p x)) f xs, length_mapped f xs)

places_from-append : {A : Type 0} (n : ℕ) (test : A → Bool) (xs ys : List A) → places_from n test (xs ++ ys) ≡ places_from n test xs ++ places_from (n + length xs) test ys
places_from-append n test [] ys = ap (λ (k : ℕ). places_from k test ys) (omega arith)
places_from-append {A} n test (x ∷ xs) ys = by (test x) (places_from-append (suc n) test xs ys ∙ ap (λ (k : ℕ). places_from (suc n) test xs ++ places_from k test ys) (omega arith))
  where
    by : (b : Bool) → places_from (suc n) test (xs ++ ys) ≡ places_from (suc n) test xs ++ places_from (n + length (x ∷ xs)) test ys
        → cond b (n ∷ places_from (suc n) test (xs ++ ys)) (places_from (suc n) test (xs ++ ys)) ≡ cond b (n ∷ places_from (suc n) test xs) (places_from (suc n) test xs) ++ places_from (n + length (x ∷ xs)) test ys
    by true e = ap (λ zs. n ∷ zs) e
    by false e = e

length_taken : {A : Type 0} (xs : List A) (i : ℕ) → i < length xs → length (take i xs) ≡ i
length_taken [] i lt = absurd (omega arith)
length_taken (x ∷ xs) zero lt = refl
length_taken (x ∷ xs) (suc i) lt = ap suc (length_taken xs i (omega arith))

-- one element more
pub places_more : {A : Type 0} (test : A → Bool) (xs : List A) (i : ℕ) (d : A) → i < length xs
    → places test (take (i + 1) xs) ≡ places test (take i xs) ++ cond (test (get_or xs i d)) (i ∷ []) []
places_more test xs i d lt =
    ap (λ ys. places_from 0 test ys) (take_more xs i d lt)
    ∙ places_from-append 0 test (take i xs) (get_or xs i d ∷ [])
    ∙ ap (λ (k : ℕ). places_from 0 test (take i xs) ++ cond (test (get_or xs i d)) (k ∷ []) []) (let e : length (take i xs) ≡ i = length_taken xs i lt in omega (arith, e))

places_from-map : {A B : Type 0} (n : ℕ) (test : B → Bool) (f : A → B) (xs : List A) → places_from n test (map f xs) ≡ places_from n (λ x. test (f x)) xs
places_from-map n test f [] = refl
places_from-map n test f (x ∷ xs) = rw (places_from-map (suc n) test f xs)

-- the places among what is shown
pub places_map : {A B : Type 0} (test : B → Bool) (f : A → B) (xs : List A) → places test (map f xs) ≡ places (λ x. test (f x)) xs
places_map test f xs = places_from-map 0 test f xs

-- those of the places at which another test passes too
filtered : {A : Type 0} (test more : A → Bool) (at : ℕ → Bool) (n : ℕ) (xs : List A)
    → ((i : ℕ) (x : A) → slice_get xs i ≡ Some x → at (n + i) ≡ more x)
    → filter at (places_from n test xs) ≡ places_from n (λ x. test x && more x) xs
filtered test more at n [] each = refl
filtered {A} test more at n (x ∷ xs) each =
    let here : at n ≡ more x = ap at (omega arith) ∙ each 0 x refl in
    let rest : filter at (places_from (suc n) test xs) ≡ places_from (suc n) (λ x. test x && more x) xs =
    filtered test more at (suc n) xs (λ i y e. ap at (omega arith) ∙ each (suc i) y e) in
    by (test x) here rest
  where
    pick : (b : Bool) (ys zs : List ℕ) → ys ≡ zs → cond b (n ∷ ys) ys ≡ cond b (n ∷ zs) zs
    pick true ys zs e = ap (λ ws. n ∷ ws) e
    pick false ys zs e = e

    by : (b : Bool) → at n ≡ more x → filter at (places_from (suc n) test xs) ≡ places_from (suc n) (λ x. test x && more x) xs
        → filter at (cond b (n ∷ places_from (suc n) test xs) (places_from (suc n) test xs)) ≡ cond (b && more x) (n ∷ places_from (suc n) (λ x. test x && more x) xs) (places_from (suc n) (λ x. test x && more x) xs)
    by true here rest = ap (λ b. cond b (n ∷ filter at (places_from (suc n) test xs)) (filter at (places_from (suc n) test xs))) here ∙ pick (more x) _ _ rest
    by false here rest = rest

-- the same, of what stands at each place
pub places_both : {A : Type 0} (test more : A → Bool) (xs : List A)
    → filter (λ i. option_map_or more (slice_get xs i) false) (places test xs) ≡ places (λ x. test x && more x) xs
places_both test more xs = filtered test more (λ i. option_map_or more (slice_get xs i) false) 0 xs (λ i x e. ap (λ (k : ℕ). option_map_or more (slice_get xs k) false) (omega arith) ∙ ap (λ o. option_map_or more o false) e)

-- an element more, where the test passes or not
pub joined : (b : Bool) (xs ys : List ℕ) (i : ℕ) → xs ≡ ys → cond b (xs ++ i ∷ []) xs ≡ ys ++ cond b (i ∷ []) []
joined true xs ys i e = ap (λ zs. zs ++ i ∷ []) e
joined false xs ys i e = e ∙ sym (append-nil ys)
