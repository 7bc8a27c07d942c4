-- The rows of two texts are the two texts.
use Rattle.std.proofs.Common.{◌≡◌, ℕ, ◌+◌, ◌-◌, ◌<◌, Bool, true, false, cond, nat_eq, List, [], ◌∷◌, ◌++◌, length, get_or, take, drop, refl, sym, ap, ◌∙◌, arith}
use Rattle.std.specs.List.{concat, flat_map}
use Rattle.std.specs.Prelude.{slice_index_or}
use Rattle.std.proofs.lemmas.List.{get_or-drop, get_or-take, length-drop, length-take}
use Rattle.std.proofs.lemmas.List.Concat.{concat_is}
use Rattle.std.proofs.lemmas.List.Folds.{list_any_at}
use Rattle.line_diff.specs.Diff.{Pair, pair, onto_first, whole_lines, pairs, rows_of, is_changed, is_shown, AreTheTexts}

-- the lines, one behind another
joined : List (List ℕ) → List ℕ
joined lines = flat_map (λ (line : List ℕ). line) lines

onto_first-joined : (b : ℕ) (lines : List (List ℕ)) → joined (onto_first b lines) ≡ b ∷ joined lines
unfolding joined
onto_first-joined b [] = refl
onto_first-joined b (line ∷ lines) = refl

by_newline : (b : ℕ) (lines : List (List ℕ)) (is_end : Bool) → joined (cond is_end ((b ∷ []) ∷ lines) (onto_first b lines)) ≡ b ∷ joined lines
unfolding joined
by_newline b lines true = refl
by_newline b lines false = onto_first-joined b lines

whole_lines-joined : (text : List ℕ) → joined (whole_lines text) ≡ text
unfolding joined
whole_lines-joined [] = refl
whole_lines-joined (b ∷ bs) = by_newline b (whole_lines bs) (nat_eq b 10) ∙ ap (λ (xs : List ℕ). b ∷ xs) (whole_lines-joined bs)

old_side : (old new : List (List ℕ)) → flat_map (λ (r : Pair). r.old) (pairs old new) ≡ joined old
unfolding joined
old_side [] [] = refl
old_side [] (n ∷ new) = old_side [] new
old_side (o ∷ old) [] = ap (λ (xs : List ℕ). o ++ xs) (old_side old [])
old_side (o ∷ old) (n ∷ new) = ap (λ (xs : List ℕ). o ++ xs) (old_side old new)

new_side : (old new : List (List ℕ)) → flat_map (λ (r : Pair). r.new) (pairs old new) ≡ joined new
unfolding joined
new_side [] [] = refl
new_side [] (n ∷ new) = ap (λ (xs : List ℕ). n ++ xs) (new_side [] new)
new_side (o ∷ old) [] = new_side old []
new_side (o ∷ old) (n ∷ new) = ap (λ (xs : List ℕ). n ++ xs) (new_side old new)

-- the row stands in the window round it
in_window : (rows : List Pair) (i : ℕ) (d : Pair) → get_or (take (i + 4 - (i - 3)) (drop (i - 3) rows)) (i - (i - 3)) d ≡ get_or rows i d
in_window rows i d =
    get_or-take (i + 4 - (i - 3)) (drop (i - 3) rows) (i - (i - 3)) d (omega arith)
    ∙ get_or-drop (i - 3) rows (i - (i - 3)) d
    ∙ ap (λ (k : ℕ). get_or rows k d) (omega arith)

changed_is_shown : (rows : List Pair) (i : ℕ) (d : Pair) → i < length rows → is_changed (get_or rows i d) ≡ true → is_shown rows i ≡ true
changed_is_shown rows i d l c =
    list_any_at is_changed (take (i + 4 - (i - 3)) (drop (i - 3) rows)) (i - (i - 3)) d
    (omega (arith, length-take (i + 4 - (i - 3)) (drop (i - 3) rows), length-drop (i - 3) rows))
    (ap is_changed (in_window rows i d) ∙ c)

not_true : (b : Bool) → (b ≡ true → false ≡ true) → b ≡ false
not_true true n = sym (n refl)
not_true false n = refl

pub hidden_is_same : (rows : List Pair) (i : ℕ) → i < length rows → is_shown rows i ≡ false → is_changed (slice_index_or rows i (pair [] [])) ≡ false
hidden_is_same rows i l h =
    not_true (is_changed (get_or rows i (pair [] []))) (λ c. sym h ∙ changed_is_shown rows i (pair [] []) l c)

pub whole_lines-concat : (text : List ℕ) → concat (whole_lines text) ≡ text
unfolding joined
whole_lines-concat text = concat_is (whole_lines text) ∙ whole_lines-joined text

pub are_the_texts : (old new : List ℕ) → AreTheTexts old new (rows_of old new)
unfolding joined
are_the_texts old new = record {
  old_side = old_side (whole_lines old) (whole_lines new) ∙ whole_lines-joined old;
  new_side = new_side (whole_lines old) (whole_lines new) ∙ whole_lines-joined new;
  hidden_are_same = hidden_is_same (rows_of old new);
}
