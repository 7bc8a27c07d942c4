-- Lines that are answered one after the other.
use Rattle.std.proofs.Common.{◌≡◌, ℕ, ◌+◌, Bool, true, false, List, [], ◌∷◌, ◌++◌, length, map, flat_map, take, ◌<◌, get_or, subst, refl, sym, ap, ◌∙◌, append_assoc, append-nil, arith, All}
use Rattle.std.specs.Prelude.{◌==◌}
use Rattle.std.specs.Str.{IsUtf8, is_utf8}
use Rattle.std.proofs.lemmas.Str.{IsUtf8-from_is_utf8}
use Rattle.std.specs.Borrow.{Bor}
use Rattle.std.proofs.lemmas.List.{map_more}
use Rattle.std.proofs.lemmas.Grind.{common_steps}
use Rattle.std.proofs.lemmas.List.Elements.{All-nil, All-cons, All-append}
use Rattle.spdx_requirement.specs.Rows.{Rows}
use Rattle.spdx_lexer.specs.declared.token.ParseMode.{ParseMode}
use Rattle.meaning_program.specs.Reading.{mode_by, read_as}
use Rattle.meaning_program.specs.Simplified.{Line, MeaningOrWhy, Told, IsAnswered, IsOfBytes, IsOfLine, IsOfText, trimmed, written, text_for, told_for, told_from}

told-append : (number : ℕ) (xs ys : List Line) → told_from number (xs ++ ys) ≡ told_from number xs ++ told_from (number + length xs) ys
told-append number [] ys = ap (λ (n : ℕ). told_from n ys) (omega arith)
told-append number (x ∷ xs) ys =
    ap (λ (r : List Told). told_for number x.answer ++ r) (told-append (number + 1) xs ys ∙ ap (λ (n : ℕ). told_from (number + 1) xs ++ told_from n ys) (omega arith))
    ∙ sym (append_assoc (told_for number x.answer) (told_from (number + 1) xs) (told_from (number + length (x ∷ xs)) ys))

-- what was written and told so far, for these texts
pub record Sofar (c : Rows) (is_lax : Bool) (texts : List (List ℕ)) (text : List ℕ) (told : List Told) : Type 0 where
  pub lines : List Line
  pub of_texts : map (λ (line : Line). line.text) lines ≡ map trimmed texts
  pub answered : All (IsAnswered c is_lax) lines
  pub text_is : text ≡ flat_map written lines
  pub told_is : told ≡ told_from 1 lines

pub none : (c : Rows) (is_lax : Bool) → Sofar c is_lax [] [] []
none c is_lax = record { lines = []; of_texts = refl; answered = All-nil (IsAnswered c is_lax); text_is = refl; told_is = refl }

one : (c : Rows) (is_lax : Bool) (line : Line) → IsAnswered c is_lax line → All (IsAnswered c is_lax) (line ∷ [])
one c is_lax line h = All-cons (IsAnswered c is_lax) line [] h (All-nil (IsAnswered c is_lax))

pub more : (c : Rows) (is_lax : Bool) (texts : List (List ℕ)) (text : List ℕ) (told : List Told) → Sofar c is_lax texts text told
    → (line : List ℕ) (answer : MeaningOrWhy) → IsOfLine c is_lax (trimmed line) answer
    → Sofar c is_lax (texts ++ line ∷ []) (text ++ (text_for (trimmed line) answer ++ 10 ∷ [])) (told ++ told_for (length texts + 1) answer)
more c is_lax texts text told h line answer k =
    let new : Line = record { text = trimmed line; answer = answer } in
    let count : length h.lines ≡ length texts = let e = ap length h.of_texts in grind (arith, common_steps) in
    record {
      lines = h.lines ++ new ∷ [];
      of_texts = let e = h.of_texts in grind (arith, common_steps);
      answered = All-append (IsAnswered c is_lax) h.lines (new ∷ []) h.answered (one c is_lax new k);
      text_is = let e = h.text_is in grind (arith, common_steps);
      told_is =
          ap (λ (r : List Told). r ++ told_for (length texts + 1) answer) h.told_is
          ∙ ap (λ (n : ℕ). told_from 1 h.lines ++ told_for n answer) (omega (arith, count))
          ∙ ap (λ (r : List Told). told_from 1 h.lines ++ r) (sym (append-nil (told_for (1 + length h.lines) answer)))
          ∙ sym (told-append 1 h.lines (new ∷ []));
    }

-- one more line of some
pub next : (c : Rows) (is_lax : Bool) (texts : List (Bor (List ℕ))) (i : ℕ) (d : Bor (List ℕ)) (text text' : List ℕ) (told told' : List Told) (line : List ℕ) (answer : MeaningOrWhy)
    → i < length texts → Sofar c is_lax (map (λ x. x.now) (take i texts)) text told
    → line ≡ trimmed (get_or texts i d).now → IsOfLine c is_lax line answer
    → text' ≡ text ++ (text_for line answer ++ 10 ∷ []) → told' ≡ told ++ told_for (i + 1) answer
    → Sofar c is_lax (map (λ x. x.now) (take (i + 1) texts)) text' told'
next c is_lax texts i d text text' told told' line answer lt h is k e f =
    let shown : Bor (List ℕ) → List ℕ = λ x. x.now in
    let before : List (List ℕ) = map shown (take i texts) in
    let count : length before ≡ i = grind (arith, common_steps) in
    let m = more c is_lax before text told h (shown (get_or texts i d)) answer (subst (λ (l : List ℕ). IsOfLine c is_lax l answer) is k) in
    subst (λ (ts : List (List ℕ)). Sofar c is_lax ts text' told') (sym (map_more shown texts i d lt))
    (subst (λ (t : List ℕ). Sofar c is_lax (before ++ shown (get_or texts i d) ∷ []) t told') (ap (λ (l : List ℕ). text ++ (text_for l answer ++ 10 ∷ [])) (sym is) ∙ sym e)
    (subst (λ (t : List Told). Sofar c is_lax (before ++ shown (get_or texts i d) ∷ []) (text ++ (text_for (trimmed (shown (get_or texts i d))) answer ++ 10 ∷ [])) t) (ap (λ (n : ℕ). told ++ told_for (n + 1) answer) count ∙ sym f) m))

-- ---- one line

-- a line in which something stands
pub of_some : (c : Rows) (is_lax : Bool) (line : List ℕ) (answer : MeaningOrWhy) (is empty : Bool) → empty ≡ (length line == 0) → empty ≡ false → is_utf8 line ≡ is → IsOfBytes c is_lax is line answer → IsOfLine c is_lax line answer
of_some c is_lax [] answer is empty e some u h = absurd (let bad : true ≡ false = sym e ∙ some in cc)
of_some c is_lax (b ∷ bs) answer is empty e some u h = subst (λ (v : Bool). IsOfBytes c is_lax v (b ∷ bs) answer) (sym u) h

pub not_text : (bytes : List ℕ) → (IsUtf8 bytes → ⊥) → is_utf8 bytes ≡ false
not_text bytes none = by (is_utf8 bytes) (IsUtf8-from_is_utf8 bytes)
  where
    by : (b : Bool) → (b ≡ true → IsUtf8 bytes) → b ≡ false
    by true text = absurd (none (text refl))
    by false text = refl

-- what a text means as it is read
pub of_read : (c : Rows) (is_lax : Bool) (line text read shown : List ℕ) (m : ParseMode) (answer : MeaningOrWhy) → text ≡ line → read ≡ read_as c is_lax text → shown ≡ read → m ≡ mode_by is_lax → IsOfText c m shown answer → IsOfBytes c is_lax true line answer
of_read c is_lax line text read shown m answer same reads shows mode h =
    subst (λ (n : ParseMode). IsOfText c n (read_as c is_lax line) answer) mode
    (subst (λ (t : List ℕ). IsOfText c m t answer) (shows ∙ reads ∙ ap (read_as c is_lax) same) h)
