-- Zeros behind a list change no comparison of padded lists, so that nothing has to be padded.
use Rattle.std.proofs.Common.{◌≡◌, ℕ, zero, suc, ◌≤◌, List, [], ◌∷◌, length, max, refl, ap, arith}
use Rattle.std.specs.Ordering.{nat_cmp, ordering_then, is_lt}
use Rattle.std.specs.declared.cmp.Ordering.{Ordering}
use Rattle.std.specs.Cmp.Lexicographic.{slice_cmp}
use Rattle.spdx_licensee.specs.Version.{padded}
use Rattle.spdx_licensee.proofs.Marks.{is_less}

-- two lists, where a missing number is 0
abbrev pub extended_cmp : List ℕ → List ℕ → Ordering
extended_cmp [] [] = slice_cmp nat_cmp [] []
extended_cmp [] (y ∷ ys) = ordering_then (nat_cmp 0 y) (extended_cmp [] ys)
extended_cmp (x ∷ xs) [] = ordering_then (nat_cmp x 0) (extended_cmp xs [])
extended_cmp (x ∷ xs) (y ∷ ys) = ordering_then (nat_cmp x y) (extended_cmp xs ys)

padded_compare : (len : ℕ) (xs ys : List ℕ) → length xs ≤ len → length ys ≤ len → slice_cmp nat_cmp (padded len xs) (padded len ys) ≡ extended_cmp xs ys
padded_compare zero [] [] hx hy = refl
padded_compare zero [] (y ∷ ys) hx hy = absurd (omega arith)
padded_compare zero (x ∷ xs) ys hx hy = absurd (omega arith)
padded_compare (suc len) [] [] hx hy = padded_compare len [] [] (omega arith) (omega arith)
padded_compare (suc len) [] (y ∷ ys) hx hy = ap (ordering_then (nat_cmp 0 y)) (padded_compare len [] ys (omega arith) (omega arith))
padded_compare (suc len) (x ∷ xs) [] hx hy = ap (ordering_then (nat_cmp x 0)) (padded_compare len xs [] (omega arith) (omega arith))
padded_compare (suc len) (x ∷ xs) (y ∷ ys) hx hy = ap (ordering_then (nat_cmp x y)) (padded_compare len xs ys (omega arith) (omega arith))

pub is_less_extended : (xs ys : List ℕ) → is_less xs ys ≡ is_lt (extended_cmp xs ys)
is_less_extended xs ys = ap is_lt (padded_compare (max (length xs) (length ys)) xs ys (omega arith) (omega arith))

-- a zero more at the end of a list of one
pub zero_left : (x : ℕ) (ys : List ℕ) → extended_cmp (x ∷ []) ys ≡ extended_cmp (x ∷ 0 ∷ []) ys
zero_left x [] = refl
zero_left x (y ∷ []) = refl
zero_left x (y ∷ z ∷ zs) = refl

pub zero_right : (xs : List ℕ) (y : ℕ) → extended_cmp xs (y ∷ []) ≡ extended_cmp xs (y ∷ 0 ∷ [])
zero_right [] y = refl
zero_right (x ∷ []) y = refl
zero_right (x ∷ z ∷ zs) y = refl
