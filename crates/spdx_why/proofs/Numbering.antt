-- The truth of a tree over a list of answers, and over answers by number.
use Rattle.std.proofs.Common.{◌≡◌, ℕ, zero, suc, ◌+◌, ◌-◌, ◌≤◌, Bool, false, List, [], ◌∷◌, ◌++◌, length, take, drop, refl, ◌∙◌, ap, arith, get_or}
use Rattle.std.proofs.lemmas.List.{length-append, drop-drop, drop-take}
use Rattle.spdx_parser.specs.Tree.{Tree, Leaf, Join, leaves}
use Rattle.spdx_evaluation.specs.Truth.{joined, truth_of}
use Rattle.spdx_why.specs.Missing.{answer_in, truth_from}

-- no tree is empty
pub some_leaf : (t : Tree) → 1 ≤ length (leaves t)
some_leaf (Leaf r) = omega arith
some_leaf (Join o l r) = omega (arith, length-append (leaves l) (leaves r), some_leaf l)

first_drop : (k : ℕ) (xs : List Bool) → get_or (drop k xs) 0 false ≡ get_or xs k false
first_drop zero xs = refl
first_drop (suc k) [] = refl
first_drop (suc k) (x ∷ xs) = first_drop k xs

first_take : (n : ℕ) (xs : List Bool) → 1 ≤ n → get_or (take n xs) 0 false ≡ get_or xs 0 false
first_take zero xs h = absurd (omega arith)
first_take (suc n) [] h = refl
first_take (suc n) (x ∷ xs) h = refl

take_fewer : (m n : ℕ) (xs : List Bool) → m ≤ n → take m (take n xs) ≡ take m xs
take_fewer zero n xs h = refl
take_fewer (suc m) zero xs h = absurd (omega arith)
take_fewer (suc m) (suc n) [] h = refl
take_fewer (suc m) (suc n) (x ∷ xs) h = ap (λ (z : List Bool). x ∷ z) (take_fewer m n xs (omega arith))

-- answers past a tree's own don't count
truth_take : (t : Tree) (n : ℕ) (xs : List Bool) → length (leaves t) ≤ n → truth_of t (take n xs) ≡ truth_of t xs
truth_take (Leaf r) n xs h = first_take n xs h
truth_take (Join o l r) n xs h =
    let a = length (leaves l) in
    let all : length (leaves l ++ leaves r) ≡ a + length (leaves r) = length-append (leaves l) (leaves r) in
    let more : n ≡ a + (n - a) = omega arith in
    let front : take a (take n xs) ≡ take a xs = take_fewer a n xs (omega arith) in
    let back : drop a (take n xs) ≡ take (n - a) (drop a xs) = ap (λ (k : ℕ). drop a (take k xs)) more ∙ drop-take a (n - a) xs in
    ap (λ (z : List Bool). joined o (truth_of l z) (truth_of r (drop a (take n xs)))) front
    ∙ ap (λ (z : List Bool). joined o (truth_of l (take a xs)) (truth_of r z)) back
    ∙ ap (joined o (truth_of l (take a xs))) (truth_take r (n - a) (drop a xs) (omega arith))

-- the same truth
truth_dropped : (t : Tree) (k : ℕ) (xs : List Bool) → truth_of t (drop k xs) ≡ truth_from (answer_in xs) k t
truth_dropped (Leaf r) k xs = first_drop k xs
truth_dropped (Join o l r) k xs =
    let n = length (leaves l) in
    ap (λ (b : Bool). joined o b (truth_of r (drop n (drop k xs)))) (truth_take l n (drop k xs) (omega arith) ∙ truth_dropped l k xs)
    ∙ ap (joined o (truth_from (answer_in xs) k l)) (ap (truth_of r) (drop-drop n k xs) ∙ truth_dropped r (k + n) xs)

pub truth_numbered : (t : Tree) (xs : List Bool) → truth_of t xs ≡ truth_from (answer_in xs) 0 t
truth_numbered t xs = truth_dropped t 0 xs
