-- The first line of bytes, and the lines behind it.
use Rattle.std.proofs.Common.{◌≡◌, ◌≢◌, ℕ, ◌+◌, ◌<◌, ◌≤◌, nat_eq, false, List, [], ◌∷◌, ◌++◌, length, get_or, take, drop, Option, Some, None, unwrap_or, inl, inr, refl, sym, ap, ◌∙◌, arith}
use Rattle.std.proofs.lemmas.List.{take_all, drop_all, drop_more, take-append-drop, get_or-take, length-take-le}
use Rattle.std.proofs.lemmas.Bool.{cases_lt, eqb-true, eq-eqb}
use Rattle.memchr.specs.Find.{IsFirstByte, is_byte}
use Rattle.std.proofs.lemmas.List.Elements.{All-head, All-tail, All-same, All-from_get_or}
use Rattle.line_engine.specs.Lines.{Cut, cut, last_line, lines_of, HasNoNewline}
use Rattle.line_engine.proofs.Byte.{before_cut}
use Rattle.line_engine.proofs.Cutting.{cut-plain}

is_other : (x : ℕ) → x ≢ 10 → nat_eq x 10 ≡ false
is_other x n = grind arith

cut-line : (line behind : List ℕ) → HasNoNewline line → cut (line ++ 10 ∷ behind) ≡ record { whole = line ∷ (cut behind).whole; rest = (cut behind).rest }
cut-line [] behind n = refl
cut-line (x ∷ line) behind n =
    let f : nat_eq x 10 ≡ false = is_other x (All-head (λ b. b ≢ 10) x line n) in
    ap (before_cut x) (cut-line line behind (All-tail (λ b. b ≢ 10) x line n)) ∙ rw f refl

pub lines_of-line : (line behind : List ℕ) → HasNoNewline line → lines_of (line ++ 10 ∷ behind) ≡ line ∷ lines_of behind
lines_of-line line behind n = ap (λ (c : Cut). c.whole ++ last_line c.rest) (cut-line line behind n)

pub lines_of-last : (x : ℕ) (line : List ℕ) → HasNoNewline (x ∷ line) → lines_of (x ∷ line) ≡ (x ∷ line) ∷ []
lines_of-last x line n = ap (λ (c : Cut). c.whole ++ last_line c.rest) (cut-plain [] (x ∷ line) n)

module _ (xs : List ℕ) (len : ℕ) (before : (k : ℕ) → k < len → get_or xs k 0 ≢ 10) where
  no_newline : len ≤ length xs → HasNoNewline (take len xs)
  no_newline l =
      All-from_get_or (λ b. b ≢ 10) (take len xs) 0 (λ i h.
      let low : i < len = omega (arith, length-take-le len xs l) in
      λ e. before i low (sym (get_or-take len xs i 0 low) ∙ e))

  parts : len < length xs → get_or xs len 0 ≡ 10 → xs ≡ take len xs ++ 10 ∷ drop (len + 1) xs
  parts l e =
      sym (take-append-drop len xs)
      ∙ ap (λ (ys : List ℕ). take len xs ++ ys) (drop_more xs len 0 l ∙ ap (λ (b : ℕ). b ∷ drop (len + 1) xs) e)

  ended : len < length xs → get_or xs len 0 ≡ 10 → lines_of xs ≡ take len xs ∷ lines_of (drop (len + 1) xs)
  ended l e = ap lines_of (parts l e) ∙ lines_of-line (take len xs) (drop (len + 1) xs) (no_newline (omega arith))

last : (xs : List ℕ) → 0 < length xs → HasNoNewline xs → lines_of xs ≡ xs ∷ []
last [] l n = absurd (omega arith)
last (x ∷ xs) l n = lines_of-last x xs n

open_end : (xs : List ℕ) (len : ℕ) → 0 < length xs → length xs ≤ len → HasNoNewline (take len xs) → lines_of xs ≡ take len xs ∷ lines_of (drop (len + 1) xs)
open_end xs len some l n =
    let all = take_all len xs l in
    last xs some (All-same (λ b. b ≢ 10) xs (take len xs) (sym all) n)
    ∙ ap (λ (line : List ℕ). line ∷ []) (sym all)
    ∙ ap (λ (ys : List ℕ). take len xs ∷ lines_of ys) (sym (drop_all (len + 1) xs (omega arith)))

-- the first line goes up to the first newline, or to the end
lines_of-first : (xs : List ℕ) (len : ℕ) → len ≤ length xs → ((k : ℕ) → k < len → get_or xs k 0 ≢ 10) → (len < length xs → get_or xs len 0 ≡ 10) →
    0 < length xs → lines_of xs ≡ take len xs ∷ lines_of (drop (len + 1) xs)
lines_of-first xs len l before newline some =
    elim (cases_lt len (length xs)) [
      | inl h ↦ ended xs len before h (newline h)
      | inr h ↦ open_end xs len some (omega arith) (no_newline xs len before l)
    ]

-- the same of an answer of a search for it
pub lines_of-found : (xs : List ℕ) (r : Option ℕ) → IsFirstByte (is_byte 10) xs r → 0 < length xs →
    lines_of xs ≡ take (unwrap_or r (length xs)) xs ∷ lines_of (drop (unwrap_or r (length xs) + 1) xs)
lines_of-found xs None h some = lines_of-first xs (length xs) (omega arith) (λ k l e. h k (omega arith) l (eq-eqb _ _ e)) (λ l. absurd (omega arith)) some
lines_of-found xs (Some k) h some =
    lines_of-first xs k (omega (arith, h.0.high)) (λ j l e. h.0.before j (omega arith) l (eq-eqb _ _ e)) (λ l. eqb-true _ _ h.1) some
