-- Numbers that ascend, with the next one.
use Rattle.std.proofs.Common.{◌≡◌, ℕ, ◌+◌, ◌<◌, List, [], ◌∷◌, ◌++◌, length, get_or, length-append, map, arith, ap, sym, subst, ◌∙◌}
use Rattle.std.proofs.lemmas.List.{map-append}
use Rattle.std.proofs.Math.ListN.{get_or-append}
use Rattle.std.proofs.Math.Seq.{get_or-append_seam}
use Rattle.std.specs.List.Sorted.{IsStrictlyIncreasing}

-- all but the last one
pub so_far : (xs : List ℕ) (n : ℕ) → IsStrictlyIncreasing (xs ++ n ∷ []) → IsStrictlyIncreasing xs
so_far xs n rise = λ k lt.
    let more : k + 1 < length (xs ++ n ∷ []) = omega (arith, length-append xs (n ∷ [])) in
    let first : k < length xs = omega arith in
    omega (arith, rise k more, get_or-append xs (n ∷ []) 0 k first, get_or-append xs (n ∷ []) 0 (k + 1) lt)

at_end : (xs : List ℕ) (n i : ℕ) → i ≡ length xs → get_or (xs ++ n ∷ []) i 0 ≡ n
at_end xs n i is = ap (λ (j : ℕ). get_or (xs ++ n ∷ []) j 0) is ∙ get_or-append_seam xs n [] 0

-- one that is greater than the last
one_more : (xs : List ℕ) (n : ℕ) → IsStrictlyIncreasing xs → ((k : ℕ) → k + 1 ≡ length xs → get_or xs k 0 < n) → IsStrictlyIncreasing (xs ++ n ∷ [])
one_more xs n rise last = λ k lt.
    let within : k < length xs = omega (arith, length-append xs (n ∷ [])) in
    grind (arith, rise k, last k, length-append xs (n ∷ []), get_or-append xs (n ∷ []) 0 k within, get_or-append xs (n ∷ []) 0 (k + 1), at_end xs n (k + 1))

-- the next number stands behind the last
next_behind : (xs : List ℕ) (n : ℕ) → IsStrictlyIncreasing (xs ++ n ∷ []) → IsStrictlyIncreasing ((xs ++ n ∷ []) ++ (n + 1) ∷ [])
next_behind xs n rise = one_more (xs ++ n ∷ []) (n + 1) rise (λ k is. omega (arith, length-append xs (n ∷ []), at_end xs n k))

-- or in its place
pub next_instead : (xs : List ℕ) (n : ℕ) → IsStrictlyIncreasing (xs ++ n ∷ []) → IsStrictlyIncreasing (xs ++ (n + 1) ∷ [])
next_instead xs n rise = one_more xs (n + 1) (so_far xs n rise) (λ k is.
    let within : k < length xs = omega arith in
    let more : k + 1 < length (xs ++ n ∷ []) = omega (arith, length-append xs (n ∷ [])) in
    omega (arith, rise k more, get_or-append xs (n ∷ []) 0 k within, at_end xs n (k + 1)))

-- what has the next number stands behind the others
pub pushed : {A : Type 0} (number : A → ℕ) (xs new : List A) (x : A) (n : ℕ) → new ≡ xs ++ x ∷ [] → number x ≡ n
    → IsStrictlyIncreasing (map number xs ++ n ∷ []) → IsStrictlyIncreasing (map number new ++ (n + 1) ∷ [])
pushed number xs new x n more is rise =
    let found : map number new ≡ map number xs ++ n ∷ [] =
    ap (map number) more ∙ map-append number xs (x ∷ []) ∙ ap (λ (y : ℕ). map number xs ++ y ∷ []) is in
    subst (λ (ns : List ℕ). IsStrictlyIncreasing (ns ++ (n + 1) ∷ [])) (sym found) (next_behind (map number xs) n rise)
