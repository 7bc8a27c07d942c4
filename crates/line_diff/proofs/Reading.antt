-- What a reader of a diff does at each piece of it.
use Rattle.std.proofs.Common.{◌≡◌, ℕ, suc, ◌+◌, ◌-◌, ◌^◌, ◌<◌, Bool, true, false, ◌&&◌, cond, nat_eq, nat_lt, nat_le, List, [], ◌∷◌, ◌++◌, length, take, drop, Option, Some, None, refl, sym, ap, ◌∙◌, append_assoc, arith}
use Rattle.std.specs.Option.{option_and_then}
use Rattle.std.specs.Str.{bytes_eq}
use Rattle.std.proofs.lemmas.Bool.Decides.{nat_tests}
use Rattle.std.proofs.lemmas.List.{drop_at, take_at, length-append}
use Rattle.std.proofs.lemmas.Slice.Eq.{bytes_eq-Decides}
use Rattle.line_diff.specs.Diff.{whole_lines, line_text}
use Rattle.line_diff.specs.Applied.{Place, told_lines, start_behind, lines_before, is_between_hunks, into_hunk, past_old, past_new, in_hunk, read_head, read_line, read_lines, text_at}
use Rattle.line_diff.proofs.Numbers.{head_text, head_text-line, read_head-text}
use Rattle.line_diff.proofs.Told.{IsLine, IsLine-cons, IsUnworded, IsEndedLine, is_ended, is_ended-cons, tail, told_lines-line, told_lines-ended}

abbrev pub at : ℕ → ℕ → ℕ → ℕ → List (List ℕ) → List (List ℕ) → Place
at old_line new_line old_left new_left ahead made = record {
  old_line = old_line;
  new_line = new_line;
  old_left = old_left;
  new_left = new_left;
  ahead = ahead;
  made = made;
}

-- what a reader who stands there makes of the rest of a diff
abbrev pub read_on : Place → List ℕ → Option (List ℕ)
read_on p text = option_and_then text_at (read_lines p (told_lines (whole_lines text)))

with_lines : (p q : Place) (line : List ℕ) (lines : List (List ℕ)) → read_line p line ≡ Some q → option_and_then text_at (read_lines p (line ∷ lines)) ≡ option_and_then text_at (read_lines q lines)
with_lines p q line lines e = ap (λ (o : Option Place). option_and_then text_at (option_and_then (λ (r : Place). read_lines r lines) o)) e

read_on-line : (p q : Place) (line rest : List ℕ) → IsLine line → IsUnworded rest → read_line p line ≡ Some q → read_on p (line ++ (tail (is_ended line) ++ rest)) ≡ read_on q rest
read_on-line p q line rest l u e =
    ap (λ (lines : List (List ℕ)). option_and_then text_at (read_lines p lines)) (told_lines-line line rest l u)
    ∙ with_lines p q line (told_lines (whole_lines rest)) e

read_on-ended : (p q : Place) (line rest : List ℕ) → IsEndedLine line → IsUnworded rest → read_line p line ≡ Some q → read_on p (line ++ rest) ≡ read_on q rest
read_on-ended p q line rest l u e =
    ap (λ (lines : List (List ℕ)). option_and_then text_at (read_lines p lines)) (told_lines-ended line rest l u)
    ∙ with_lines p q line (told_lines (whole_lines rest)) e

-- ---- a line of a hunk

pub not_none : (n : ℕ) → nat_eq (suc n) 0 ≡ false
not_none n = grind (arith, nat_tests)

line_text-is : (mark : ℕ) (line rest : List ℕ) → IsLine line → line_text mark line ++ rest ≡ (mark ∷ line) ++ (tail (is_ended (mark ∷ line)) ++ rest)
unfolding line_text
line_text-is mark [] rest l = absurd l
line_text-is mark (b ∷ bs) rest l =
    ap (λ (t : Bool). cond t [] (mark ∷ ((b ∷ bs) ++ tail (is_ended (b ∷ bs)))) ++ rest) (not_none (length bs))
    ∙ ap (λ (xs : List ℕ). mark ∷ xs) (append_assoc (b ∷ bs) (tail (is_ended (b ∷ bs))) rest)
    ∙ ap (λ (t : Bool). (mark ∷ (b ∷ bs)) ++ (tail t ++ rest)) (sym (is_ended-cons mark b bs))

in_hunk-read : (p : Place) (line : List ℕ) → is_between_hunks p ≡ false → read_line p line ≡ in_hunk p line
in_hunk-read p line e = ap (λ (t : Bool). cond t (option_and_then (into_hunk p) (read_head line)) (in_hunk p line)) e

some_left : (n : ℕ) → 0 < n → nat_lt 0 n ≡ true
some_left n h = grind (arith, nat_tests)

old_is_left : (a b : ℕ) → 0 < a → nat_eq a 0 && nat_eq b 0 ≡ false
old_is_left a b h = grind (arith, nat_tests)

new_is_left : (a b : ℕ) → 0 < b → nat_eq a 0 && nat_eq b 0 ≡ false
new_is_left a b h = grind (arith, nat_tests)

module _ (x y a b : ℕ) (made : List (List ℕ)) (rest : List ℕ) (u : IsUnworded rest) where
  past_old-is : (line : List ℕ) (lines : List (List ℕ)) → 0 < a → past_old line (at x y a b (line ∷ lines) made) ≡ Some (at (x + 1) y (a - 1) b lines made)
  past_old-is line lines h =
      let past = at (x + 1) y (a - 1) b lines made in
      ap (λ (t : Bool). cond (t && bytes_eq line line) (Some past) None) (some_left a h)
      ∙ ap (λ (t : Bool). cond t (Some past) None) ((bytes_eq-Decides line line).1 refl)

  past_new-is : (line : List ℕ) (lines : List (List ℕ)) → 0 < b → past_new line (at x y a b lines made) ≡ Some (at x (y + 1) a (b - 1) lines (made ++ line ∷ []))
  past_new-is line lines h = ap (λ (t : Bool). cond t (Some (at x (y + 1) a (b - 1) lines (made ++ line ∷ []))) None) (some_left b h)

  pub read_on-old : (line : List ℕ) (lines : List (List ℕ)) → IsLine line → 0 < a → read_on (at x y a b (line ∷ lines) made) (line_text 45 line ++ rest) ≡ read_on (at (x + 1) y (a - 1) b lines made) rest
  read_on-old line lines l h =
      let p = at x y a b (line ∷ lines) made in
      ap (read_on p) (line_text-is 45 line rest l)
      ∙ read_on-line p _ (45 ∷ line) rest (IsLine-cons 45 line refl l) u (in_hunk-read p (45 ∷ line) (old_is_left a b h) ∙ past_old-is line lines h)

  pub read_on-new : (line : List ℕ) (lines : List (List ℕ)) → IsLine line → 0 < b → read_on (at x y a b lines made) (line_text 43 line ++ rest) ≡ read_on (at x (y + 1) a (b - 1) lines (made ++ line ∷ [])) rest
  read_on-new line lines l h =
      let p = at x y a b lines made in
      ap (read_on p) (line_text-is 43 line rest l)
      ∙ read_on-line p _ (43 ∷ line) rest (IsLine-cons 43 line refl l) u (in_hunk-read p (43 ∷ line) (new_is_left a b h) ∙ past_new-is line lines h)

  pub read_on-both : (line : List ℕ) (lines : List (List ℕ)) → IsLine line → 0 < a → 0 < b → read_on (at x y a b (line ∷ lines) made) (line_text 32 line ++ rest) ≡ read_on (at (x + 1) (y + 1) (a - 1) (b - 1) lines (made ++ line ∷ [])) rest
  read_on-both line lines l h k =
      let p = at x y a b (line ∷ lines) made in
      let past = at (x + 1) (y + 1) (a - 1) (b - 1) lines (made ++ line ∷ []) in
      ap (read_on p) (line_text-is 32 line rest l)
      ∙ read_on-line p past (32 ∷ line) rest (IsLine-cons 32 line refl l) u
      (in_hunk-read p (32 ∷ line) (old_is_left a b h)
      ∙ ap (option_and_then (past_new line)) (past_old-is line lines h)
      ∙ ap (λ (t : Bool). cond t (Some past) None) (some_left b k))

-- ---- the head of a hunk

same_number : (n : ℕ) → nat_eq n n ≡ true
same_number n = grind (arith, nat_tests)

lines_before-start : (i count : ℕ) → lines_before (start_behind i count) count ≡ i
lines_before-start i count =
    let ahead : i + 1 - 1 ≡ i = omega arith in
    elim (nat_eq count 0) as (λ t. cond t (cond t i (i + 1)) (cond t i (i + 1) - 1) ≡ i) [ true ↦ refl | false ↦ ahead ]

module _ (i old new : ℕ) where
  entered : List (List ℕ) → ℕ → ℕ → Bool → List (List ℕ) → List (List ℕ) → Option Place
  entered made x y is_room same lines =
      cond (nat_eq (start_behind x old) (start_behind i old) && nat_eq (start_behind y new) (start_behind i new) && is_room)
      (Some (at x y old new lines (made ++ same))) None

  entered-is : (made same lines : List (List ℕ)) → entered made i i true same lines ≡ Some (at i i old new lines (made ++ same))
  unfolding entered
  entered-is made same lines =
      let place = Some (at i i old new lines (made ++ same)) in
      ap (λ (t : Bool). cond (t && nat_eq (start_behind i new) (start_behind i new) && true) place None) (same_number (start_behind i old))
      ∙ ap (λ (t : Bool). cond (t && true) place None) (same_number (start_behind i new))

  into_hunk-is : (x y : ℕ) (same lines made : List (List ℕ)) → x + length same ≡ i → y + length same ≡ i
      → into_hunk (at x y 0 0 (same ++ lines) made) (record { old_start = start_behind i old; old_count = old; new_start = start_behind i new; new_count = new })
      ≡ Some (at i i old new lines (made ++ same))
  unfolding entered
  into_hunk-is x y same lines made e f =
      let all = same ++ lines in
      let many : lines_before (start_behind i old) old - x ≡ length same = omega (arith, lines_before-start i old) in
      let room : nat_le (length same) (length all) ≡ true = grind (arith, nat_tests, length-append same lines) in
      ap (λ (n : ℕ). entered made (x + n) (y + n) (nat_le n (length all)) (take n all) (drop n all)) many
      ∙ ap (λ (n : ℕ). entered made n (y + length same) (nat_le (length same) (length all)) (take (length same) all) (drop (length same) all)) e
      ∙ ap (λ (n : ℕ). entered made i n (nat_le (length same) (length all)) (take (length same) all) (drop (length same) all)) f
      ∙ ap (λ (t : Bool). entered made i i t (take (length same) all) (drop (length same) all)) room
      ∙ ap (λ (ls : List (List ℕ)). entered made i i true ls (drop (length same) all)) (take_at same lines (length same) refl)
      ∙ ap (entered made i i true same) (drop_at same lines (length same) refl)
      ∙ entered-is made same lines

  pub read_on-head : (x y : ℕ) (same lines made : List (List ℕ)) (rest : List ℕ) → x + length same ≡ i → y + length same ≡ i → i + 1 < 2 ^ 64 → old < 2 ^ 64 → new < 2 ^ 64 → IsUnworded rest
      → read_on (at x y 0 0 (same ++ lines) made) (head_text i old new ++ rest) ≡ read_on (at i i old new lines (made ++ same)) rest
  read_on-head x y same lines made rest e f h k l u =
      let p = at x y 0 0 (same ++ lines) made in
      read_on-ended p _ (head_text i old new) rest (head_text-line i old new h k l) u
      (ap (option_and_then (into_hunk p)) (read_head-text i old new h k l) ∙ into_hunk-is x y same lines made e f)
