-- The diff, applied to the old text, gives the new one.
use Rattle.std.proofs.Common.{◌≡◌, ℕ, suc, ◌+◌, ◌-◌, ◌^◌, ◌<◌, ◌≤◌, Bool, true, false, not, ◌&&◌, ◌||◌, cond, nat_eq, List, [], ◌∷◌, ◌++◌, length, Option, Some, None, refl, sym, ap, ◌∙◌, subst, append_assoc, append-nil, arith}
use Rattle.std.specs.List.{concat, flat_map, list_any, range_with_len}
use Rattle.std.specs.Cmp.Lexicographic.{pointwise}
use Rattle.std.specs.Option.{option_and_then}
use Rattle.std.specs.Str.{bytes_eq}
use Rattle.std.proofs.lemmas.List.{length_push}
use Rattle.std.proofs.lemmas.Slice.Eq.{bytes_eq-Decides}
use Rattle.line_diff.specs.Diff.{Pair, pair, onto_first, whole_lines, pairs, rows_of, is_changed, is_shown, has_old, has_new, line_text, row_text, shown_text, names_text, diff_of}
use Rattle.line_diff.specs.Applied.{start_of, read_lines, text_of, text_at, applied}
use Rattle.line_diff.proofs.Named.{hunk_lines-names}
use Rattle.line_diff.proofs.Numbers.{head_text}
use Rattle.line_diff.proofs.Reading.{at, read_on, not_none, read_on-old, read_on-new, read_on-both, read_on-head}
use Rattle.line_diff.proofs.Rest.{one, hunk_count, hunk_count-le, rest_text, shown_text-rest, rest_text-unworded, row_text-unworded, line_text-unworded, IsUnworded-append, HiddenAreSame, hidden_are_same}
use Rattle.line_diff.proofs.Sides.{whole_lines-concat}
use Rattle.line_diff.proofs.Told.{IsLine, AreLines, IsUnworded, whole_lines-lines}

-- ---- lines

not_false : (t : Bool) → not t ≡ false → t ≡ true
not_false true e = refl
not_false false e = sym e

unchanged : (o n : List ℕ) → is_changed (pair o n) ≡ false → o ≡ n
unchanged o n e = (bytes_eq-Decides o n).0 (not_false (bytes_eq o n) e)

-- ---- the text of a row

put_in : (line : List ℕ) → IsLine line → is_changed (pair [] line) ≡ true
put_in [] l = absurd l
put_in (b ∷ bs) l = refl

taken_out : (line : List ℕ) → IsLine line → is_changed (pair line []) ≡ true
taken_out [] l = absurd l
taken_out (b ∷ bs) l = refl

counts_one : (line : List ℕ) → IsLine line → one (not (nat_eq (length line) 0)) ≡ 1
counts_one [] l = absurd l
counts_one (b ∷ bs) l = ap (λ (t : Bool). one (not t)) (not_none (length bs))

row_text-put_in : (line : List ℕ) → IsLine line → row_text (pair [] line) ≡ line_text 43 line
unfolding line_text
row_text-put_in line l = ap (λ (t : Bool). cond t (line_text 43 line) []) (put_in line l)

row_text-taken_out : (line : List ℕ) → IsLine line → row_text (pair line []) ≡ line_text 45 line
unfolding line_text
row_text-taken_out line l = ap (λ (t : Bool). cond t (line_text 45 line ++ []) (line_text 32 line)) (taken_out line l) ∙ append-nil (line_text 45 line)

row_text-changed : (o n : List ℕ) → is_changed (pair o n) ≡ true → row_text (pair o n) ≡ line_text 45 o ++ line_text 43 n
row_text-changed o n e = ap (λ (t : Bool). cond t (line_text 45 o ++ line_text 43 n) (line_text 32 o)) e

row_text-same : (o n : List ℕ) → is_changed (pair o n) ≡ false → row_text (pair o n) ≡ line_text 32 o
row_text-same o n e = ap (λ (t : Bool). cond t (line_text 45 o ++ line_text 43 n) (line_text 32 o)) e

-- ---- what a reader makes of the rows that are left

-- where both texts have lines left, the reader stands at the same line of both
abbrev IsEven : ℕ → ℕ → ℕ → List (List ℕ) → List (List ℕ) → Type 0
IsEven x y i [] new = Unit {0}
IsEven x y i (o ∷ old) [] = Unit {0}
IsEven x y i (o ∷ old) (n ∷ new) = (x ≡ i) × (y ≡ i)

IsEven-no_new : (x y i : ℕ) (old : List (List ℕ)) → IsEven x y i old []
IsEven-no_new x y i [] = tt
IsEven-no_new x y i (o ∷ old) = tt

IsEven-at : (i : ℕ) (old new : List (List ℕ)) → IsEven i i i old new
IsEven-at i [] new = tt
IsEven-at i (o ∷ old) [] = tt
IsEven-at i (o ∷ old) (n ∷ new) = (refl, refl)

IsEven-next : (x y i : ℕ) (old new : List (List ℕ)) → x ≡ i → y ≡ i → IsEven (x + 1) (y + 1) (i + 1) old new
IsEven-next x y i old new e f = subst (λ (k : ℕ). IsEven (k + 1) (y + 1) (i + 1) old new) (sym e) (subst (λ (k : ℕ). IsEven (i + 1) (k + 1) (i + 1) old new) (sym f) (IsEven-at (i + 1) old new))

module _ (shows : ℕ → Bool) where
  -- within a hunk, and behind one
  record Gives (i : ℕ) (rs : List Pair) (old new : List (List ℕ)) : Type 0 where
    within : (x y : ℕ) (made : List (List ℕ)) → IsEven x y i old new
        → read_on (at x y (hunk_count shows has_old i rs) (hunk_count shows has_new i rs) old made) (rest_text shows true i rs) ≡ text_of (made ++ new)
    behind : (x y : ℕ) (same : List (List ℕ)) (made : List (List ℕ)) → x + length same ≡ i → y + length same ≡ i
        → read_on (at x y 0 0 (same ++ old) made) (rest_text shows false i rs) ≡ text_of (made ++ (same ++ new))

  -- what it makes of a row that is shown, and of one that isn't
  abbrev GivesShown : ℕ → Pair → List Pair → List (List ℕ) → List (List ℕ) → Type 0
  GivesShown i r rs old new = (x y : ℕ) (made : List (List ℕ)) → IsEven x y i old new
      → read_on (at x y (one (has_old r) + hunk_count shows has_old (i + 1) rs) (one (has_new r) + hunk_count shows has_new (i + 1) rs) old made)
      (row_text r ++ rest_text shows true (i + 1) rs) ≡ text_of (made ++ new)

  record GivesHidden (i : ℕ) (rs : List Pair) (old new : List (List ℕ)) : Type 0 where
    even : (x y : ℕ) → IsEven x y i old new → (x ≡ i) × (y ≡ i)
    behind : (x y : ℕ) (same : List (List ℕ)) (made : List (List ℕ)) → x + length same ≡ i → y + length same ≡ i
        → read_on (at x y 0 0 (same ++ old) made) (rest_text shows false (i + 1) rs) ≡ text_of (made ++ (same ++ new))

  module _ (i : ℕ) (r : Pair) (rs : List Pair) (old new : List (List ℕ)) (small : i + suc (length rs) < 2 ^ 64) where
    abbrev olds : ℕ
    olds = hunk_count shows has_old (i + 1) rs

    abbrev news : ℕ
    news = hunk_count shows has_new (i + 1) rs

    -- by whether the row is shown
    abbrev within_by : Bool → ℕ → ℕ → List (List ℕ) → Option (List ℕ)
    within_by t x y made =
        read_on (at x y (cond t (one (has_old r) + olds) 0) (cond t (one (has_new r) + news) 0) old made) (cond t (row_text r) [] ++ rest_text shows t (i + 1) rs)

    abbrev behind_by : Bool → ℕ → ℕ → List (List ℕ) → List (List ℕ) → Option (List ℕ)
    behind_by t x y same made =
        read_on (at x y 0 0 (same ++ old) made)
        (cond t (head_text i (cond t (one (has_old r) + olds) 0) (cond t (one (has_new r) + news) 0) ++ row_text r) [] ++ rest_text shows t (i + 1) rs)

    within_shown : (t : Bool) → shows i ≡ t → (t ≡ true → GivesShown i r rs old new) → (t ≡ false → GivesHidden i rs old new)
        → (x y : ℕ) (made : List (List ℕ)) → IsEven x y i old new → within_by t x y made ≡ text_of (made ++ new)
    within_shown true e shown hidden x y made even = shown refl x y made even
    within_shown false e shown hidden x y made even =
        let h = hidden refl in
        let at_x : x + 0 ≡ i = omega (arith, (h.even x y even).0) in
        let at_y : y + 0 ≡ i = omega (arith, (h.even x y even).1) in
        h.behind x y [] made at_x at_y

    behind_shown : (t : Bool) → shows i ≡ t → (t ≡ true → GivesShown i r rs old new) → (t ≡ false → GivesHidden i rs old new)
        → (x y : ℕ) (same : List (List ℕ)) (made : List (List ℕ)) → x + length same ≡ i → y + length same ≡ i → behind_by t x y same made ≡ text_of (made ++ (same ++ new))
    behind_shown true e shown hidden x y same made f g =
        let a = one (has_old r) + olds in
        let b = one (has_new r) + news in
        let rest = row_text r ++ rest_text shows true (i + 1) rs in
        let few : (t : Bool) → one t ≤ 1 = λ t. elim t as (λ u. one u ≤ 1) [ true ↦ omega arith | false ↦ omega arith ] in
        let few_olds : a < 2 ^ 64 = omega (arith, few (has_old r), hunk_count-le shows has_old (i + 1) rs) in
        let few_news : b < 2 ^ 64 = omega (arith, few (has_new r), hunk_count-le shows has_new (i + 1) rs) in
        ap (read_on (at x y 0 0 (same ++ old) made)) (append_assoc (head_text i a b) (row_text r) (rest_text shows true (i + 1) rs))
        ∙ read_on-head i a b x y same old made rest f g (omega arith) few_olds few_news
        (IsUnworded-append (row_text r) (rest_text shows true (i + 1) rs) (row_text-unworded r) (rest_text-unworded shows true (i + 1) rs))
        ∙ shown refl i i (made ++ same) (IsEven-at i old new)
        ∙ ap text_of (append_assoc made same new)
    behind_shown false e shown hidden x y same made f g = (hidden refl).behind x y same made f g

    row_gives : (shows i ≡ true → GivesShown i r rs old new) → (shows i ≡ false → GivesHidden i rs old new) → Gives i (r ∷ rs) old new
    row_gives shown hidden = record {
      within = within_shown (shows i) refl shown hidden;
      behind = behind_shown (shows i) refl shown hidden;
    }

  back : (n : ℕ) → 1 + n - 1 ≡ n
  back n = omega arith

  -- ---- each row

  module _ (i : ℕ) (rs : List Pair) where
    abbrev rest : List ℕ
    rest = rest_text shows true (i + 1) rs

    abbrev olds_left : ℕ
    olds_left = hunk_count shows has_old (i + 1) rs

    abbrev news_left : ℕ
    news_left = hunk_count shows has_new (i + 1) rs

    rest_unworded : IsUnworded rest
    rest_unworded = rest_text-unworded shows true (i + 1) rs

    module _ (old new : List (List ℕ)) (more : Gives (i + 1) rs old new) where
      -- a row with a new line alone
      new_shown : (n : List ℕ) → IsLine n → ((x y : ℕ) → IsEven x y (i + 1) old new)
          → (x y : ℕ) (made : List (List ℕ)) → read_on (at x y (0 + olds_left) (one (has_new (pair [] n)) + news_left) old made) (row_text (pair [] n) ++ rest) ≡ text_of (made ++ n ∷ new)
      new_shown n l even x y made =
          let none : 0 + olds_left ≡ olds_left = omega arith in
          ap (λ (a : ℕ). read_on (at x y a (one (has_new (pair [] n)) + news_left) old made) (row_text (pair [] n) ++ rest)) none
          ∙ ap (λ (b : ℕ). read_on (at x y olds_left (b + news_left) old made) (row_text (pair [] n) ++ rest)) (counts_one n l)
          ∙ ap (λ (text : List ℕ). read_on (at x y olds_left (1 + news_left) old made) (text ++ rest)) (row_text-put_in n l)
          ∙ read_on-new x y olds_left (1 + news_left) made rest rest_unworded n old l (omega arith)
          ∙ ap (λ (b : ℕ). read_on (at x (y + 1) olds_left b old (made ++ n ∷ [])) rest) (back news_left)
          ∙ more.within x (y + 1) (made ++ n ∷ []) (even x (y + 1))
          ∙ ap text_of (append_assoc made (n ∷ []) new)

      -- a row with an old line alone
      old_shown : (o : List ℕ) → IsLine o → ((x y : ℕ) → IsEven x y (i + 1) old new)
          → (x y : ℕ) (made : List (List ℕ)) → read_on (at x y (one (has_old (pair o [])) + olds_left) (0 + news_left) (o ∷ old) made) (row_text (pair o []) ++ rest) ≡ text_of (made ++ new)
      old_shown o l even x y made =
          let none : 0 + news_left ≡ news_left = omega arith in
          ap (λ (b : ℕ). read_on (at x y (one (has_old (pair o [])) + olds_left) b (o ∷ old) made) (row_text (pair o []) ++ rest)) none
          ∙ ap (λ (a : ℕ). read_on (at x y (a + olds_left) news_left (o ∷ old) made) (row_text (pair o []) ++ rest)) (counts_one o l)
          ∙ ap (λ (text : List ℕ). read_on (at x y (1 + olds_left) news_left (o ∷ old) made) (text ++ rest)) (row_text-taken_out o l)
          ∙ read_on-old x y (1 + olds_left) news_left made rest rest_unworded o old l (omega arith)
          ∙ ap (λ (a : ℕ). read_on (at (x + 1) y a news_left old made) rest) (back olds_left)
          ∙ more.within (x + 1) y made (even (x + 1) y)

      -- a row with both
      changed_read : (o n : List ℕ) → IsLine o → IsLine n → is_changed (pair o n) ≡ true
          → (x y : ℕ) (made : List (List ℕ)) → read_on (at x y (1 + olds_left) (1 + news_left) (o ∷ old) made) (row_text (pair o n) ++ rest) ≡ read_on (at (x + 1) (y + 1) olds_left news_left old (made ++ n ∷ [])) rest
      changed_read o n l m e x y made =
          let p = at x y (1 + olds_left) (1 + news_left) (o ∷ old) made in
          ap (λ (text : List ℕ). read_on p (text ++ rest)) (row_text-changed o n e)
          ∙ ap (read_on p) (append_assoc (line_text 45 o) (line_text 43 n) rest)
          ∙ read_on-old x y (1 + olds_left) (1 + news_left) made (line_text 43 n ++ rest)
          (IsUnworded-append (line_text 43 n) rest (line_text-unworded 43 n refl) rest_unworded) o old l (omega arith)
          ∙ read_on-new (x + 1) y (1 + olds_left - 1) (1 + news_left) made rest rest_unworded n old m (omega arith)
          ∙ ap (λ (a : ℕ). read_on (at (x + 1) (y + 1) a (1 + news_left - 1) old (made ++ n ∷ [])) rest) (back olds_left)
          ∙ ap (λ (b : ℕ). read_on (at (x + 1) (y + 1) olds_left b old (made ++ n ∷ [])) rest) (back news_left)

      same_read : (o n : List ℕ) → IsLine o → is_changed (pair o n) ≡ false
          → (x y : ℕ) (made : List (List ℕ)) → read_on (at x y (1 + olds_left) (1 + news_left) (o ∷ old) made) (row_text (pair o n) ++ rest) ≡ read_on (at (x + 1) (y + 1) olds_left news_left old (made ++ n ∷ [])) rest
      same_read o n l e x y made =
          let p = at x y (1 + olds_left) (1 + news_left) (o ∷ old) made in
          ap (λ (text : List ℕ). read_on p (text ++ rest)) (row_text-same o n e)
          ∙ read_on-both x y (1 + olds_left) (1 + news_left) made rest rest_unworded o old l (omega arith) (omega arith)
          ∙ ap (λ (a : ℕ). read_on (at (x + 1) (y + 1) a (1 + news_left - 1) old (made ++ o ∷ [])) rest) (back olds_left)
          ∙ ap (λ (b : ℕ). read_on (at (x + 1) (y + 1) olds_left b old (made ++ o ∷ [])) rest) (back news_left)
          ∙ ap (λ (line : List ℕ). read_on (at (x + 1) (y + 1) olds_left news_left old (made ++ line ∷ [])) rest) (unchanged o n e)

      row_read : (o n : List ℕ) → IsLine o → IsLine n → (t : Bool) → is_changed (pair o n) ≡ t
          → (x y : ℕ) (made : List (List ℕ)) → read_on (at x y (1 + olds_left) (1 + news_left) (o ∷ old) made) (row_text (pair o n) ++ rest) ≡ read_on (at (x + 1) (y + 1) olds_left news_left old (made ++ n ∷ [])) rest
      row_read o n l m true e x y made = changed_read o n l m e x y made
      row_read o n l m false e x y made = same_read o n l e x y made

      both_shown : (o n : List ℕ) → IsLine o → IsLine n → GivesShown i (pair o n) rs (o ∷ old) (n ∷ new)
      both_shown o n l m x y made even =
          ap (λ (a : ℕ). read_on (at x y (a + olds_left) (one (has_new (pair o n)) + news_left) (o ∷ old) made) (row_text (pair o n) ++ rest)) (counts_one o l)
          ∙ ap (λ (b : ℕ). read_on (at x y (1 + olds_left) (b + news_left) (o ∷ old) made) (row_text (pair o n) ++ rest)) (counts_one n m)
          ∙ row_read o n l m (is_changed (pair o n)) refl x y made
          ∙ more.within (x + 1) (y + 1) (made ++ n ∷ []) (IsEven-next x y i old new even.0 even.1)
          ∙ ap text_of (append_assoc made (n ∷ []) new)

      both_hidden : (o n : List ℕ) → is_changed (pair o n) ≡ false → GivesHidden i rs (o ∷ old) (n ∷ new)
      both_hidden o n e = record {
        even = λ x y even. even;
        behind = λ x y same made f g.
            let len = length_push same o in
            let next_x : x + length (same ++ o ∷ []) ≡ i + 1 = omega (arith, len, f) in
            let next_y : y + length (same ++ o ∷ []) ≡ i + 1 = omega (arith, len, g) in
            ap (λ (lines : List (List ℕ)). read_on (at x y 0 0 lines made) (rest_text shows false (i + 1) rs)) (sym (append_assoc same (o ∷ []) old))
            ∙ more.behind x y (same ++ o ∷ []) made next_x next_y
            ∙ ap (λ (lines : List (List ℕ)). text_of (made ++ lines)) (append_assoc same (o ∷ []) new)
            ∙ ap (λ (line : List ℕ). text_of (made ++ (same ++ line ∷ new))) (unchanged o n e);
      }

  -- ---- all rows

  never : {A : Type 0} (t : Bool) → t ≡ true → t ≡ false → A
  never t e f = let h : true ≡ false = sym e ∙ f in cc

  gives : (i : ℕ) (old new : List (List ℕ)) → AreLines old → AreLines new → HiddenAreSame shows i (pairs old new) → i + length (pairs old new) < 2 ^ 64 → Gives i (pairs old new) old new
  gives i [] [] l m h s = record {
    within = λ x y made even. refl;
    behind = λ x y same made f g. refl;
  }
  gives i [] (n ∷ new) l m h s =
      let more = gives (i + 1) [] new l m.1 h.1 (omega arith) in
      row_gives i (pair [] n) (pairs [] new) [] (n ∷ new) s
      (λ e x y made even. new_shown i (pairs [] new) [] new more n m.0 (λ u v. tt) x y made)
      (λ e. never (is_changed (pair [] n)) (put_in n m.0) (h.0 e))
  gives i (o ∷ old) [] l m h s =
      let more = gives (i + 1) old [] l.1 m h.1 (omega arith) in
      row_gives i (pair o []) (pairs old []) (o ∷ old) [] s
      (λ e x y made even. old_shown i (pairs old []) old [] more o l.0 (λ u v. IsEven-no_new u v (i + 1) old) x y made)
      (λ e. never (is_changed (pair o [])) (taken_out o l.0) (h.0 e))
  gives i (o ∷ old) (n ∷ new) l m h s =
      let more = gives (i + 1) old new l.1 m.1 h.1 (omega arith) in
      row_gives i (pair o n) (pairs old new) (o ∷ old) (n ∷ new) s
      (λ e. both_shown i (pairs old new) old new more o n l.0 m.0)
      (λ e. both_hidden i (pairs old new) old new more o n (h.0 e))

-- ---- how many rows there are

length-onto_first : (b : ℕ) (lines : List (List ℕ)) → length (onto_first b lines) ≤ suc (length lines)
length-onto_first b [] = omega arith
length-onto_first b (line ∷ lines) = omega arith

length-one_more : (b : ℕ) (lines : List (List ℕ)) (t : Bool) → length (cond t ((b ∷ []) ∷ lines) (onto_first b lines)) ≤ suc (length lines)
length-one_more b lines true = omega arith
length-one_more b lines false = length-onto_first b lines

length-whole_lines : (text : List ℕ) → length (whole_lines text) ≤ length text
length-whole_lines [] = omega arith
length-whole_lines (b ∷ bs) = omega (arith, length-one_more b (whole_lines bs) (nat_eq b 10), length-whole_lines bs)

length-pairs : (old new : List (List ℕ)) → length (pairs old new) ≤ length old + length new
length-pairs [] [] = omega arith
length-pairs [] (n ∷ new) = omega (arith, length-pairs [] new)
length-pairs (o ∷ old) [] = omega (arith, length-pairs old [])
length-pairs (o ∷ old) (n ∷ new) = omega (arith, length-pairs old new)

-- ---- the whole diff

same_lines : (lines : List (List ℕ)) → pointwise bytes_eq lines lines ≡ true
same_lines [] = refl
same_lines (line ∷ lines) = ap (λ (t : Bool). t && pointwise bytes_eq lines lines) ((bytes_eq-Decides line line).1 refl) ∙ same_lines lines

text_of-whole_lines : (text : List ℕ) → text_of (whole_lines text) ≡ Some text
text_of-whole_lines text =
    let lines = whole_lines text in
    ap (λ (bs : List ℕ). cond (pointwise bytes_eq (whole_lines bs) lines) (Some bs) None) (whole_lines-concat text)
    ∙ ap (λ (t : Bool). cond t (Some text) None) (same_lines lines)

either_true : (a b : Bool) → a || b ≡ false → (a ≡ false) × (b ≡ false)
either_true true b e = let h : true ≡ false = e in cc
either_true false b e = (refl, e)

none_changed : (old new : List (List ℕ)) → list_any is_changed (pairs old new) ≡ false → concat old ≡ concat new
none_changed [] [] e = refl
none_changed [] (n ∷ new) e =
    let p = either_true (is_changed (pair [] n)) (list_any is_changed (pairs [] new)) e in
    none_changed [] new p.1 ∙ ap (λ (line : List ℕ). line ++ concat new) (unchanged [] n p.0)
none_changed (o ∷ old) [] e =
    let p = either_true (is_changed (pair o [])) (list_any is_changed (pairs old [])) e in
    ap (λ (line : List ℕ). line ++ concat old) (unchanged o [] p.0) ∙ none_changed old [] p.1
none_changed (o ∷ old) (n ∷ new) e =
    let p = either_true (is_changed (pair o n)) (list_any is_changed (pairs old new)) e in
    ap (λ (line : List ℕ). line ++ concat old) (unchanged o n p.0) ∙ ap (λ (bs : List ℕ). n ++ bs) (none_changed old new p.1)

module _ (name old new : List ℕ) (old_small : length old < 2 ^ 63) (new_small : length new < 2 ^ 63) where
  abbrev hunks : List ℕ
  hunks = flat_map (shown_text (rows_of old new)) (range_with_len 0 (length (rows_of old new)))

  hunks-rest : hunks ≡ rest_text (is_shown (rows_of old new)) false 0 (rows_of old new)
  hunks-rest = shown_text-rest (rows_of old new) 0 (rows_of old new) refl

  by_rows : read_on (start_of old) hunks ≡ Some new
  by_rows =
      let few = length-pairs (whole_lines old) (whole_lines new) in
      let less = length-whole_lines old in
      let fewer = length-whole_lines new in
      let all = gives (is_shown (rows_of old new)) 0 (whole_lines old) (whole_lines new) (whole_lines-lines old) (whole_lines-lines new) (hidden_are_same (rows_of old new) 0 (rows_of old new) refl) (omega arith) in
      let none : 0 + 0 ≡ 0 = omega arith in
      ap (read_on (start_of old)) hunks-rest ∙ all.behind 0 0 [] [] none none ∙ text_of-whole_lines new

  by_change : (t : Bool) → list_any is_changed (rows_of old new) ≡ t → applied (cond t (names_text name ++ hunks) []) old ≡ Some new
  by_change true e =
      ap (λ (lines : Option (List (List ℕ))). option_and_then text_at (option_and_then (read_lines (start_of old)) lines))
      (hunk_lines-names name hunks)
      ∙ by_rows
  by_change false e =
      text_of-whole_lines old
      ∙ ap (λ (bs : List ℕ). Some bs) (sym (whole_lines-concat old) ∙ none_changed (whole_lines old) (whole_lines new) e ∙ whole_lines-concat new)

  pub diff_applies : applied (diff_of name (rows_of old new)) old ≡ Some new
  diff_applies = by_change (list_any is_changed (rows_of old new)) refl
