-- Printed texts, a piece at a time.
use Rattle.std.proofs.Common.{◌≡◌, ℕ, zero, suc, ◌+◌, ◌≤◌, List, [], ◌∷◌, ◌++◌, length, drop, get_or, refl, sym, ◌∙◌, ap, arith, append_assoc, append-nil, codes}
use Rattle.std.specs.Borrow.{Bor}
use Rattle.std.specs.List.{repeat}
use Rattle.spdx_lexer.specs.Faults.{terms_of, quoted_words, unexpected_text}

-- once more
pub repeat_next : (n : ℕ) (xs : List ℕ) → repeat n xs ++ xs ≡ repeat (n + 1) xs
repeat_next n xs = let one : suc n ≡ n + 1 = omega arith in ends n ∙ ap (λ k. repeat k xs) one
  where
    ends : (n : ℕ) → repeat n xs ++ xs ≡ repeat (suc n) xs
    ends zero = sym (append-nil xs)
    ends (suc n) = append_assoc xs (repeat n xs) xs ∙ ap (λ ys. xs ++ ys) (ends n)

pub several : (ws : List (Bor (List ℕ))) (d : Bor (List ℕ)) → 2 ≤ length ws → unexpected_text (terms_of ws) ≡ codes "expected one of " ++ (quoted_words ((get_or ws 0 d).now ∷ (get_or ws 1 d).now ∷ terms_of (drop 2 ws)) ++ codes " here")
several [] d h = absurd (omega arith)
several (w ∷ []) d h = absurd (omega arith)
several (v ∷ w ∷ ws) d h = refl
