-- A diff from a row on, by the rows that are left.
use Rattle.std.proofs.Common.{◌≡◌, ℕ, suc, ◌+◌, ◌-◌, ◌≤◌, Bool, true, false, ◌&&◌, cond, nat_eq, nat_lt, List, [], ◌∷◌, ◌++◌, length, get_or, take, drop, refl, sym, ap, ◌∙◌, arith}
use Rattle.std.specs.List.{flat_map, prefix_len, range_with_len}
use Rattle.std.specs.Prelude.{count_by, slice_index_or}
use Rattle.std.proofs.lemmas.Bool.Decides.{nat_tests}
use Rattle.std.proofs.lemmas.List.{drop-drop, get_or-drop, length-drop}
use Rattle.std.proofs.lemmas.List.Sums.{sum_by-cons}
use Rattle.line_diff.specs.Diff.{Pair, pair, has_old, has_new, is_changed, is_shown, hunk_len, hunk_head, row_text, line_text, shown_text}
use Rattle.line_diff.proofs.Numbers.{head_text}
use Rattle.line_diff.proofs.Shown.{prefix_len-more, prefix_len-end}
use Rattle.line_diff.proofs.Sides.{hidden_is_same}
use Rattle.line_diff.proofs.Told.{IsUnworded, is_ended, tail}

abbrev pub one : Bool → ℕ
one has = cond has 1 0

-- in how many rows a hunk has a line, from a row on
abbrev pub hunk_count : (ℕ → Bool) → (Pair → Bool) → ℕ → List Pair → ℕ
hunk_count shows has i [] = 0
hunk_count shows has i (r ∷ rs) = cond (shows i) (one (has r) + hunk_count shows has (i + 1) rs) 0

-- what the diff has of the rows from one on, within a hunk or behind one
abbrev pub rest_text : (ℕ → Bool) → Bool → ℕ → List Pair → List ℕ
rest_text shows is_within i [] = []
rest_text shows is_within i (r ∷ rs) =
    cond (shows i) (cond is_within [] (head_text i (hunk_count shows has_old i (r ∷ rs)) (hunk_count shows has_new i (r ∷ rs))) ++ row_text r) []
    ++ rest_text shows (shows i) (i + 1) rs

-- ---- the count of a hunk

counted : (shows : ℕ → Bool) (has : Pair → Bool) (i n : ℕ) (r : Pair) (rs : List Pair) (t : Bool) → shows i ≡ t
    → count_by has (take (prefix_len shows (range_with_len (i + 1) n)) rs) ≡ hunk_count shows has (i + 1) rs
    → count_by has (take (prefix_len shows (range_with_len i (suc n))) (r ∷ rs)) ≡ cond t (one (has r) + hunk_count shows has (i + 1) rs) 0
counted shows has i n r rs true e more =
    let len = prefix_len shows (range_with_len (i + 1) n) in
    let next : 1 + len ≡ suc len = omega arith in
    ap (λ (k : ℕ). count_by has (take k (r ∷ rs))) (prefix_len-more shows i (suc n) n refl e ∙ next)
    ∙ sum_by-cons (λ (y : Pair). one (has y)) r (take len rs) ∙ ap (λ (k : ℕ). one (has r) + k) more
counted shows has i n r rs false e more = ap (λ (k : ℕ). count_by has (take k (r ∷ rs))) (prefix_len-end shows i (suc n) n refl e)

count_by-hunk : (shows : ℕ → Bool) (has : Pair → Bool) (i : ℕ) (rs : List Pair) → count_by has (take (prefix_len shows (range_with_len i (length rs))) rs) ≡ hunk_count shows has i rs
count_by-hunk shows has i [] = refl
count_by-hunk shows has i (r ∷ rs) = counted shows has i (length rs) r rs (shows i) refl (count_by-hunk shows has (i + 1) rs)

pub hunk_count-le : (shows : ℕ → Bool) (has : Pair → Bool) (i : ℕ) (rs : List Pair) → hunk_count shows has i rs ≤ length rs
hunk_count-le shows has i [] = omega arith
hunk_count-le shows has i (r ∷ rs) =
    let more = hunk_count-le shows has (i + 1) rs in
    let within : (t u : Bool) → cond t (one u + hunk_count shows has (i + 1) rs) 0 ≤ suc (length rs) =
    λ t u. elim t as (λ v. cond v (one u + hunk_count shows has (i + 1) rs) 0 ≤ suc (length rs)) [
      | true ↦ elim u as (λ w. one w + hunk_count shows has (i + 1) rs ≤ suc (length rs)) [ true ↦ omega (arith, more) | false ↦ omega (arith, more) ]
      | false ↦ omega arith
    ] in
    within (shows i) (has r)

-- ---- a row by its index

module _ (rows : List Pair) (i : ℕ) (r : Pair) (rs : List Pair) (is : drop i rows ≡ r ∷ rs) where
  at_index : (d : Pair) → get_or rows i d ≡ r
  at_index d =
      let here : i ≡ i + 0 = omega arith in
      ap (λ (k : ℕ). get_or rows k d) here ∙ sym (get_or-drop i rows 0 d) ∙ ap (λ (ps : List Pair). get_or ps 0 d) is

  behind_index : drop (i + 1) rows ≡ rs
  behind_index = sym (drop-drop 1 i rows) ∙ ap (drop 1) is

  length_left : length rows - i ≡ suc (length rs)
  length_left = sym (length-drop i rows) ∙ ap length is

  hunk_counted : (has : Pair → Bool) → count_by has (take (hunk_len rows i) (drop i rows)) ≡ hunk_count (is_shown rows) has i (r ∷ rs)
  hunk_counted has =
      ap (λ (ps : List Pair). count_by has (take (hunk_len rows i) ps)) is
      ∙ ap (λ (n : ℕ). count_by has (take (prefix_len (is_shown rows) (range_with_len i n)) (r ∷ rs))) length_left
      ∙ count_by-hunk (is_shown rows) has i (r ∷ rs)

  hunk_head-at : hunk_head rows i ≡ head_text i (hunk_count (is_shown rows) has_old i (r ∷ rs)) (hunk_count (is_shown rows) has_new i (r ∷ rs))
  unfolding hunk_head
  hunk_head-at =
      ap (λ (n : ℕ). head_text i n (count_by has_new (take (hunk_len rows i) (drop i rows)))) (hunk_counted has_old)
      ∙ ap (head_text i (hunk_count (is_shown rows) has_old i (r ∷ rs))) (hunk_counted has_new)

  shown_text-at : shown_text rows i
      ≡ cond (is_shown rows i) (cond (nat_lt 0 i && is_shown rows (i - 1)) [] (head_text i (hunk_count (is_shown rows) has_old i (r ∷ rs)) (hunk_count (is_shown rows) has_new i (r ∷ rs))) ++ row_text r) []
  shown_text-at =
      let is_within = nat_lt 0 i && is_shown rows (i - 1) in
      ap (λ (head : List ℕ). cond (is_shown rows i) (cond is_within [] head ++ row_text (slice_index_or rows i (pair [] []))) []) hunk_head-at
      ∙ ap (λ (row : Pair). cond (is_shown rows i) (cond is_within [] (head_text i (hunk_count (is_shown rows) has_old i (r ∷ rs)) (hunk_count (is_shown rows) has_new i (r ∷ rs))) ++ row_text row) []) (at_index (pair [] []))

  within_next : nat_lt 0 (i + 1) && is_shown rows (i + 1 - 1) ≡ is_shown rows i
  within_next =
      let some : nat_lt 0 (i + 1) ≡ true = grind (arith, nat_tests) in
      let same : i + 1 - 1 ≡ i = omega arith in
      ap (λ (t : Bool). t && is_shown rows (i + 1 - 1)) some ∙ ap (is_shown rows) same

pub shown_text-rest : (rows : List Pair) (i : ℕ) (rs : List Pair) → drop i rows ≡ rs
    → flat_map (shown_text rows) (range_with_len i (length rs)) ≡ rest_text (is_shown rows) (nat_lt 0 i && is_shown rows (i - 1)) i rs
shown_text-rest rows i [] is = refl
shown_text-rest rows i (r ∷ rs) is =
    ap (λ (xs : List ℕ). xs ++ flat_map (shown_text rows) (range_with_len (i + 1) (length rs))) (shown_text-at rows i r rs is)
    ∙ ap (λ (xs : List ℕ). cond (is_shown rows i) (cond (nat_lt 0 i && is_shown rows (i - 1)) [] (head_text i (hunk_count (is_shown rows) has_old i (r ∷ rs)) (hunk_count (is_shown rows) has_new i (r ∷ rs))) ++ row_text r) [] ++ xs)
    (shown_text-rest rows (i + 1) rs (behind_index rows i r rs is)
    ∙ ap (λ (t : Bool). rest_text (is_shown rows) t (i + 1) rs) (within_next rows i r rs is))

-- ---- rows that are not shown

abbrev pub HiddenAreSame : (ℕ → Bool) → ℕ → List Pair → Type 0
HiddenAreSame shows i [] = Unit {0}
HiddenAreSame shows i (r ∷ rs) = (shows i ≡ false → is_changed r ≡ false) × HiddenAreSame shows (i + 1) rs

pub hidden_are_same : (rows : List Pair) (i : ℕ) (rs : List Pair) → drop i rows ≡ rs → HiddenAreSame (is_shown rows) i rs
hidden_are_same rows i [] is = tt
hidden_are_same rows i (r ∷ rs) is =
    let left = length_left rows i r rs is in (
      λ h. ap is_changed (sym (at_index rows i r rs is (pair [] []))) ∙ hidden_is_same rows i (omega (arith, left)) h,
      hidden_are_same rows (i + 1) rs (behind_index rows i r rs is),
    )

-- ---- no text of rows begins with a backslash

pub IsUnworded-append : (xs ys : List ℕ) → IsUnworded xs → IsUnworded ys → IsUnworded (xs ++ ys)
IsUnworded-append [] ys u v = v
IsUnworded-append (x ∷ xs) ys u v = u

either_unworded : (t : Bool) (xs ys : List ℕ) → IsUnworded xs → IsUnworded ys → IsUnworded (cond t xs ys)
either_unworded true xs ys u v = u
either_unworded false xs ys u v = v

pub line_text-unworded : (mark : ℕ) (line : List ℕ) → IsUnworded (mark ∷ []) → IsUnworded (line_text mark line)
unfolding line_text
line_text-unworded mark line u = either_unworded (nat_eq (length line) 0) [] (mark ∷ (line ++ tail (is_ended line))) tt u

pub row_text-unworded : (r : Pair) → IsUnworded (row_text r)
row_text-unworded r =
    either_unworded (is_changed r) (line_text 45 r.old ++ line_text 43 r.new) (line_text 32 r.old)
    (IsUnworded-append (line_text 45 r.old) (line_text 43 r.new) (line_text-unworded 45 r.old refl) (line_text-unworded 43 r.new refl))
    (line_text-unworded 32 r.old refl)

pub rest_text-unworded : (shows : ℕ → Bool) (is_within : Bool) (i : ℕ) (rs : List Pair) → IsUnworded (rest_text shows is_within i rs)
rest_text-unworded shows is_within i [] = tt
rest_text-unworded shows is_within i (r ∷ rs) =
    let head = head_text i (hunk_count shows has_old i (r ∷ rs)) (hunk_count shows has_new i (r ∷ rs)) in
    IsUnworded-append (cond (shows i) (cond is_within [] head ++ row_text r) []) (rest_text shows (shows i) (i + 1) rs)
    (either_unworded (shows i) (cond is_within [] head ++ row_text r) []
    (IsUnworded-append (cond is_within [] head) (row_text r) (either_unworded is_within [] head tt refl) (row_text-unworded r)) tt)
    (rest_text-unworded shows (shows i) (i + 1) rs)
