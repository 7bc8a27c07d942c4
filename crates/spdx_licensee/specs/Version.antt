-- How the versions that names state are compared.
use Rattle.std.specs.Prelude.{ℕ, zero, suc, Bool, false, ◌==◌, List, [], ◌∷◌, length, max, map, bytes_eq}
use Rattle.std.specs.List.{slice_split}
use Rattle.std.specs.Str.Parse.{digits_value}
use Rattle.std.specs.Ordering.{nat_cmp, is_lt}
use Rattle.std.specs.Cmp.Lexicographic.{pointwise, slice_cmp}

-- the same parts in the same order
abbrev pub same_parts : List (List ℕ) → List (List ℕ) → Bool
same_parts a b = pointwise bytes_eq a b

-- the whole numbers between a version's dots, an empty piece being 0
abbrev pub numbers : List ℕ → List ℕ
numbers version = map (digits_value 10) (slice_split (λ b. b == 46) version)

-- the list with zeros behind it, up to a length
abbrev pub padded : ℕ → List ℕ → List ℕ
padded zero xs = xs
padded (suc len) [] = 0 ∷ padded len []
padded (suc len) (x ∷ xs) = x ∷ padded len xs

-- One version comes before the other: with the numbers of both padded by zeros to one length, it
-- has the lesser at the first place where they differ.
abbrev pub older : List ℕ → List ℕ → Bool
older a b =
    let len = max (length (numbers a)) (length (numbers b)) in
    is_lt (slice_cmp nat_cmp (padded len (numbers a)) (padded len (numbers b)))

-- the digits begin with a zero
abbrev pub leads_with_zero : List ℕ → Bool
leads_with_zero [] = false
leads_with_zero (digit ∷ rest) = digit == 48
