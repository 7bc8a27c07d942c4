-- The first line of a text.
use Rattle.std.proofs.Common.{◌≡◌, ◌≢◌, ℕ, ◌+◌, ◌<◌, ◌≤◌, nat_eq, false, cond, List, [], ◌∷◌, ◌++◌, All, length, get_or, take, drop, refl, sym, ap, ◌∙◌, arith}
use Rattle.std.proofs.lemmas.List.{take_all, drop_all, drop_more, take_more, take-append-drop, get_or-take, length-take-le}
use Rattle.std.proofs.lemmas.List.Elements.{All-head, All-tail, All-same, All-from_get_or}
use Rattle.line_diff.specs.Diff.{onto_first, whole_lines}

is_other : (x : ℕ) → x ≢ 10 → nat_eq x 10 ≡ false
is_other x n = grind arith

before_other : (x : ℕ) (lines : List (List ℕ)) → x ≢ 10 → cond (nat_eq x 10) ((x ∷ []) ∷ lines) (onto_first x lines) ≡ onto_first x lines
before_other x lines n = rw (is_other x n) refl

whole_lines-line : (line rest : List ℕ) → All (λ b. b ≢ 10) line → whole_lines (line ++ 10 ∷ rest) ≡ (line ++ 10 ∷ []) ∷ whole_lines rest
whole_lines-line [] rest n = refl
whole_lines-line (x ∷ line) rest n =
    before_other x (whole_lines (line ++ 10 ∷ rest)) (All-head (λ b. b ≢ 10) x line n)
    ∙ ap (onto_first x) (whole_lines-line line rest (All-tail (λ b. b ≢ 10) x line n))

whole_lines-last : (x : ℕ) (line : List ℕ) → All (λ b. b ≢ 10) (x ∷ line) → whole_lines (x ∷ line) ≡ (x ∷ line) ∷ []
whole_lines-last x [] n = before_other x [] (All-head (λ b. b ≢ 10) x [] n)
whole_lines-last x (y ∷ line) n =
    before_other x (whole_lines (y ∷ line)) (All-head (λ b. b ≢ 10) x (y ∷ line) n)
    ∙ ap (onto_first x) (whole_lines-last y line (All-tail (λ b. b ≢ 10) x (y ∷ line) n))

last : (xs : List ℕ) → 0 < length xs → All (λ b. b ≢ 10) xs → whole_lines xs ≡ xs ∷ []
last [] l n = absurd (omega arith)
last (x ∷ xs) l n = whole_lines-last x xs n

module _ (xs : List ℕ) (end : ℕ) (before : (k : ℕ) → k < end → get_or xs k 0 ≢ 10) where
  no_newline : end ≤ length xs → All (λ b. b ≢ 10) (take end xs)
  no_newline l =
      All-from_get_or (λ b. b ≢ 10) (take end xs) 0 (λ i h.
      let low : i < end = omega (arith, length-take-le end xs l) in
      λ e. before i low (sym (get_or-take end xs i 0 low) ∙ e))

  pub first_ended : end < length xs → get_or xs end 0 ≡ 10 → whole_lines xs ≡ take (end + 1) xs ∷ whole_lines (drop (end + 1) xs)
  first_ended l e =
      ap whole_lines (sym (take-append-drop end xs) ∙ ap (λ (ys : List ℕ). take end xs ++ ys) (drop_more xs end 0 l ∙ ap (λ (b : ℕ). b ∷ drop (end + 1) xs) e))
      ∙ whole_lines-line (take end xs) (drop (end + 1) xs) (no_newline (omega arith))
      ∙ ap (λ (line : List ℕ). line ∷ whole_lines (drop (end + 1) xs)) (ap (λ (b : ℕ). take end xs ++ b ∷ []) (sym e) ∙ sym (take_more xs end 0 l))

  pub first_open : 0 < length xs → length xs ≤ end → end ≤ length xs → whole_lines xs ≡ take end xs ∷ whole_lines (drop end xs)
  first_open some l h =
      let all = take_all end xs l in
      last xs some (All-same (λ b. b ≢ 10) xs (take end xs) (sym all) (no_newline h))
      ∙ ap (λ (line : List ℕ). line ∷ []) (sym all)
      ∙ ap (λ (ys : List ℕ). take end xs ∷ whole_lines ys) (sym (drop_all end xs l))
