-- A line that was put into a diff is read from it.
use Rattle.std.proofs.Common.{◌≡◌, ℕ, zero, suc, ◌-◌, Bool, true, false, cond, nat_eq, List, [], ◌∷◌, ◌++◌, length, take, drop, codes, refl, sym, ap, ◌∙◌, arith}
use Rattle.std.specs.List.{ends_with}
use Rattle.std.specs.Cmp.Lexicographic.{pointwise}
use Rattle.std.specs.Str.{bytes_eq}
use Rattle.std.proofs.Math.Bool.{and-true}
use Rattle.std.proofs.lemmas.Bool.Decides.{nat_tests}
use Rattle.std.proofs.lemmas.List.{take_at, length-append}
use Rattle.foreign_text.proofs.Bytes.{Lacks}
use Rattle.line_diff.specs.Diff.{onto_first, whole_lines}
use Rattle.line_diff.specs.Applied.{no_newline, onto_told, told_lines}

-- ---- lines

-- a newline stands nowhere but at the end
abbrev pub IsLine : List ℕ → Type 0
IsLine [] = ⊥
IsLine (b ∷ []) = Unit {0}
IsLine (b ∷ (c ∷ bs)) = (nat_eq b 10 ≡ false) × IsLine (c ∷ bs)

abbrev pub AreLines : List (List ℕ) → Type 0
AreLines [] = Unit {0}
AreLines (line ∷ lines) = IsLine line × AreLines lines

pub IsLine-cons : (b : ℕ) (line : List ℕ) → nat_eq b 10 ≡ false → IsLine line → IsLine (b ∷ line)
IsLine-cons b [] n l = absurd l
IsLine-cons b (c ∷ bs) n l = (n, l)

onto_first-lines : (b : ℕ) (lines : List (List ℕ)) → nat_eq b 10 ≡ false → AreLines lines → AreLines (onto_first b lines)
onto_first-lines b [] n l = (tt, tt)
onto_first-lines b (line ∷ lines) n l = (IsLine-cons b line n l.0, l.1)

one_more : (b : ℕ) (lines : List (List ℕ)) (t : Bool) → nat_eq b 10 ≡ t → AreLines lines → AreLines (cond t ((b ∷ []) ∷ lines) (onto_first b lines))
one_more b lines true e l = (tt, l)
one_more b lines false e l = onto_first-lines b lines e l

pub whole_lines-lines : (text : List ℕ) → AreLines (whole_lines text)
whole_lines-lines [] = tt
whole_lines-lines (b ∷ bs) = one_more b (whole_lines bs) (nat_eq b 10) refl (whole_lines-lines bs)

-- ---- the end of a line

abbrev pub is_ended : List ℕ → Bool
is_ended line = ends_with nat_eq line (10 ∷ [])

-- what follows the line in a diff
abbrev pub tail : Bool → List ℕ
tail is_end = cond is_end [] (codes "\n\\ No newline at end of file\n")

abbrev as_whole : Bool → List ℕ → List (List ℕ) → List (List ℕ)
as_whole true line lines = line ∷ lines
as_whole false line lines = (line ++ 10 ∷ []) ∷ (no_newline ∷ lines)

pub is_ended-cons : (b c : ℕ) (bs : List ℕ) → is_ended (b ∷ (c ∷ bs)) ≡ is_ended (c ∷ bs)
is_ended-cons b c bs =
    let e : length (b ∷ (c ∷ bs)) - 1 ≡ suc (length (c ∷ bs) - 1) = omega arith in
    ap (λ (n : ℕ). pointwise nat_eq (10 ∷ []) (drop n (b ∷ (c ∷ bs)))) e

is_ended-one : (b : ℕ) (t : Bool) → is_ended (b ∷ []) ≡ t → nat_eq b 10 ≡ t
is_ended-one b t e =
    let same : nat_eq b 10 ≡ nat_eq 10 b = grind (arith, nat_tests) in same ∙ sym (and-true (nat_eq 10 b)) ∙ e

onto_first-whole : (b : ℕ) (t : Bool) (line : List ℕ) (lines : List (List ℕ)) → onto_first b (as_whole t line lines) ≡ as_whole t (b ∷ line) lines
onto_first-whole b true line lines = refl
onto_first-whole b false line lines = refl

whole_lines-tail : (line rest : List ℕ) (t : Bool) → IsLine line → is_ended line ≡ t → whole_lines (line ++ (tail t ++ rest)) ≡ as_whole t line (whole_lines rest)
whole_lines-tail [] rest t l e = absurd l
whole_lines-tail (b ∷ []) rest true l e = rw (is_ended-one b true e) refl
whole_lines-tail (b ∷ []) rest false l e = rw (is_ended-one b false e) refl
whole_lines-tail (b ∷ (c ∷ bs)) rest t l e =
    let more = whole_lines-tail (c ∷ bs) rest t l.1 (sym (is_ended-cons b c bs) ∙ e) in
    ap (λ (x : Bool). cond x ((b ∷ []) ∷ whole_lines ((c ∷ bs) ++ (tail t ++ rest))) (onto_first b (whole_lines ((c ∷ bs) ++ (tail t ++ rest))))) l.0
    ∙ ap (onto_first b) more
    ∙ onto_first-whole b t (c ∷ bs) (whole_lines rest)

-- ---- what is said of the line before

-- it does not begin with a backslash
abbrev pub IsUnworded : List ℕ → Type 0
IsUnworded [] = Unit {0}
IsUnworded (b ∷ bs) = nat_eq b 92 ≡ false

abbrev FirstUnworded : List (List ℕ) → Type 0
FirstUnworded [] = Unit {0}
FirstUnworded (line ∷ lines) = IsUnworded line

first_onto : (b : ℕ) (lines : List (List ℕ)) → nat_eq b 92 ≡ false → FirstUnworded (onto_first b lines)
first_onto b [] u = u
first_onto b (line ∷ lines) u = u

first_more : (b : ℕ) (lines : List (List ℕ)) (t : Bool) → nat_eq b 92 ≡ false → FirstUnworded (cond t ((b ∷ []) ∷ lines) (onto_first b lines))
first_more b lines true u = u
first_more b lines false u = first_onto b lines u

first_whole : (text : List ℕ) → IsUnworded text → FirstUnworded (whole_lines text)
first_whole [] u = tt
first_whole (b ∷ bs) u = first_more b (whole_lines bs) (nat_eq b 10) u

first_take : (n : ℕ) (line : List ℕ) → IsUnworded line → IsUnworded (take n line)
first_take zero line u = tt
first_take (suc n) [] u = tt
first_take (suc n) (b ∷ bs) u = u

first_or : (t : Bool) (line next : List ℕ) (lines : List (List ℕ)) → IsUnworded line → FirstUnworded (cond t (take (length line - 1) line ∷ lines) (line ∷ (next ∷ lines)))
first_or true line next lines u = first_take (length line - 1) line u
first_or false line next lines u = u

first_told : (line : List ℕ) (lines : List (List ℕ)) → IsUnworded line → FirstUnworded (onto_told line lines)
first_told line [] u = u
first_told line (next ∷ lines) u = first_or (bytes_eq next no_newline) line next lines u

told_first : (lines : List (List ℕ)) → FirstUnworded lines → FirstUnworded (told_lines lines)
told_first [] u = tt
told_first (line ∷ lines) u = first_told line (told_lines lines) u

no_word : (line : List ℕ) → IsUnworded line → bytes_eq line no_newline ≡ false
no_word [] u = refl
no_word (b ∷ bs) u = rw u refl

onto_told-plain : (line : List ℕ) (lines : List (List ℕ)) → FirstUnworded lines → onto_told line lines ≡ line ∷ lines
onto_told-plain line [] u = refl
onto_told-plain line (next ∷ lines) u = rw (no_word next u) refl

told_whole : (t : Bool) (line : List ℕ) (lines : List (List ℕ)) → FirstUnworded (told_lines lines) → told_lines (as_whole t line lines) ≡ line ∷ told_lines lines
told_whole true line lines u = onto_told-plain line (told_lines lines) u
told_whole false line lines u =
    let whole = line ++ 10 ∷ [] in
    let short : length line ≡ length whole - 1 = omega (arith, length-append line (10 ∷ [])) in
    ap (onto_told whole) (onto_told-plain no_newline (told_lines lines) u)
    ∙ ap (λ (told : List ℕ). told ∷ told_lines lines) (take_at line (10 ∷ []) (length whole - 1) short)

-- ---- both

pub told_lines-line : (line rest : List ℕ) → IsLine line → IsUnworded rest → told_lines (whole_lines (line ++ (tail (is_ended line) ++ rest))) ≡ line ∷ told_lines (whole_lines rest)
told_lines-line line rest l u =
    ap told_lines (whole_lines-tail line rest (is_ended line) l refl)
    ∙ told_whole (is_ended line) line (whole_lines rest) (told_first (whole_lines rest) (first_whole rest u))

-- ---- a line with its newline

pub record IsEndedLine (line : List ℕ) : Type 0 where
  pub is_line : IsLine line
  pub is_end : is_ended line ≡ true

is_ended-append : (xs ys : List ℕ) → IsLine ys → is_ended (xs ++ ys) ≡ is_ended ys
is_ended-append [] ys l = refl
is_ended-append (b ∷ xs) [] l = absurd l
is_ended-append (b ∷ []) (c ∷ ys) l = is_ended-cons b c ys
is_ended-append (b ∷ (d ∷ xs)) (c ∷ ys) l = is_ended-cons b d (xs ++ c ∷ ys) ∙ is_ended-append (d ∷ xs) (c ∷ ys) l

IsLine-append : (xs ys : List ℕ) → Lacks 10 xs → IsLine ys → IsLine (xs ++ ys)
IsLine-append [] ys n l = l
IsLine-append (b ∷ xs) ys n l = IsLine-cons b (xs ++ ys) n.0 (IsLine-append xs ys n.1 l)

pub IsEndedLine-append : (xs ys : List ℕ) → Lacks 10 xs → IsEndedLine ys → IsEndedLine (xs ++ ys)
IsEndedLine-append xs ys n l = record {
  is_line = IsLine-append xs ys n l.is_line;
  is_end = is_ended-append xs ys l.is_line ∙ l.is_end;
}

pub whole_lines-ended : (line rest : List ℕ) → IsEndedLine line → whole_lines (line ++ rest) ≡ line ∷ whole_lines rest
whole_lines-ended line rest l = whole_lines-tail line rest true l.is_line l.is_end

pub told_lines-ended : (line rest : List ℕ) → IsEndedLine line → IsUnworded rest → told_lines (whole_lines (line ++ rest)) ≡ line ∷ told_lines (whole_lines rest)
told_lines-ended line rest l u =
    ap (λ (t : Bool). told_lines (whole_lines (line ++ (tail t ++ rest)))) (sym l.is_end) ∙ told_lines-line line rest l.is_line u
