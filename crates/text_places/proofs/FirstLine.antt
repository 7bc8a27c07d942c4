-- The first line of bytes, up to the first newline, and the lines behind it.
use Rattle.std.proofs.Common.{◌≡◌, ℕ, suc, ◌+◌, ◌<◌, ◌==◌, not, nat_eq, Bool, true, false, List, [], ◌∷◌, ◌++◌, length, take, drop, refl, sym, ap, ◌∙◌, subst, arith}
use Rattle.std.specs.List.{prefix_len}
use Rattle.line_engine.specs.Lines.{cut, onto_first, last_line, lines_of}

-- how many bytes stand before the first newline
abbrev pub first_len : List ℕ → ℕ
first_len xs = prefix_len (λ b. not (b == 10)) xs

-- the first line has so many bytes
abbrev pub BeginsWithLine : List ℕ → ℕ → Type 0
BeginsWithLine xs n = lines_of xs ≡ take n xs ∷ lines_of (drop (n + 1) xs)

onto_line : (x : ℕ) (whole : List (List ℕ)) (rest line : List ℕ) (lines : List (List ℕ)) → whole ++ last_line rest ≡ line ∷ lines →
    (onto_first x whole rest).whole ++ last_line (onto_first x whole rest).rest ≡ (x ∷ line) ∷ lines
onto_line x [] [] line lines e = cc
onto_line x [] (r ∷ rest) line lines e = cc
onto_line x (w ∷ whole) rest line lines e = cc

other_first : (x : ℕ) (xs line : List ℕ) (lines : List (List ℕ)) → nat_eq x 10 ≡ false → lines_of xs ≡ line ∷ lines → lines_of (x ∷ xs) ≡ (x ∷ line) ∷ lines
other_first x xs line lines f e = let h = onto_line x (cut xs).whole (cut xs).rest line lines e in rw f h

first_len-other : (x : ℕ) (xs : List ℕ) → nat_eq x 10 ≡ false → first_len (x ∷ xs) ≡ suc (first_len xs)
first_len-other x xs f = rw f (omega arith)

first_by : (x : ℕ) (xs : List ℕ) (b : Bool) → nat_eq x 10 ≡ b → (0 < length xs → BeginsWithLine xs (first_len xs)) → BeginsWithLine (x ∷ xs) (first_len (x ∷ xs))
first_by x xs true t later = rw t refl
first_by x [] false f later = rw f refl
first_by x (y ∷ ys) false f later =
    let n = first_len (y ∷ ys) in
    let here = other_first x (y ∷ ys) (take n (y ∷ ys)) (lines_of (drop (n + 1) (y ∷ ys))) f (later (omega arith)) in
    let next : suc (n + 1) ≡ suc n + 1 = omega arith in
    let moved : BeginsWithLine (x ∷ y ∷ ys) (suc n) = here ∙ ap (λ (k : ℕ). (x ∷ take n (y ∷ ys)) ∷ lines_of (drop k (x ∷ y ∷ ys))) next in
    subst (BeginsWithLine (x ∷ y ∷ ys)) (sym (first_len-other x (y ∷ ys) f)) moved

pub lines_of-first : (xs : List ℕ) → 0 < length xs → BeginsWithLine xs (first_len xs)
lines_of-first [] some = absurd (omega arith)
lines_of-first (x ∷ xs) some = first_by x xs (nat_eq x 10) refl (lines_of-first xs)
