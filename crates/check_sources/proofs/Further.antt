-- The line and the column of a place, from those of an earlier one.
use Rattle.std.proofs.Common.{◌≡◌, ℕ, ◌+◌, ◌-◌, ◌≤◌, false, cond, eqb, List, ◌++◌, reverse, length, take, drop, ap, ◌∙◌, length-append, length-drop, arith}
use Rattle.std.specs.List.{prefix_len}
use Rattle.std.proofs.Math.Seq.{drop-append-add, take-add}
use Rattle.std.proofs.lemmas.Bool.{eq-eqb, cond-true, cond-false}
use Rattle.std.proofs.lemmas.List.{length-reverse, reverse-append, drop-append-le, length-take-le}
use Rattle.std.proofs.lemmas.List.Folds.{prefix_len-append}
use Rattle.std.proofs.lemmas.List.Sums.{sum_by-append, suffix_len-le-length}
use Rattle.text_places.specs.Places.{character_count, column_of, last_line_len, newline_count}
use Rattle.check_sources.specs.Lines.{line_of}

last_line : (xs ys : List ℕ) → last_line_len (xs ++ ys) ≡ cond (eqb (last_line_len ys) (length ys)) (length ys + last_line_len xs) (last_line_len ys)
last_line xs ys =
    ap (prefix_len _) (reverse-append xs ys) ∙ prefix_len-append _ (reverse ys) (reverse xs)
    ∙ ap (λ n. cond (eqb (last_line_len ys) n) (n + last_line_len xs) (last_line_len ys)) (length-reverse ys)

-- no newline stands in what is read further
same_line : (xs ys : List ℕ) → last_line_len ys ≡ length ys → last_line_len (xs ++ ys) ≡ length ys + last_line_len xs
same_line xs ys e = last_line xs ys ∙ cond-true _ _ _ (eq-eqb _ _ e)

-- a newline does
other_line : (xs ys : List ℕ) → eqb (last_line_len ys) (length ys) ≡ false → last_line_len (xs ++ ys) ≡ last_line_len ys
other_line xs ys e = last_line xs ys ∙ cond-false _ _ _ e

-- the column behind all of a text
abbrev pub column_behind : List ℕ → ℕ
column_behind xs = character_count (drop (length xs - last_line_len xs) xs) + 1

same_column : (xs ys : List ℕ) → last_line_len ys ≡ length ys → column_behind (xs ++ ys) ≡ column_behind xs + character_count ys
same_column xs ys e =
    let from = length xs - last_line_len xs in
    let place : length (xs ++ ys) - last_line_len (xs ++ ys) ≡ from = omega (arith, length-append xs ys, same_line xs ys e) in
    let sum : character_count (drop from xs ++ ys) ≡ character_count (drop from xs) + character_count ys = sum_by-append _ (drop from xs) ys in
    ap (λ n. character_count (drop n (xs ++ ys)) + 1) place
    ∙ ap (λ l. character_count l + 1) (drop-append-le from xs ys (omega arith))
    ∙ omega (arith, sum)

other_column : (xs ys : List ℕ) → eqb (last_line_len ys) (length ys) ≡ false → column_behind (xs ++ ys) ≡ column_behind ys
other_column xs ys e =
    let from = length ys - last_line_len ys in
    let within : last_line_len ys ≤ length ys = suffix_len-le-length _ ys in
    let place : length (xs ++ ys) - last_line_len (xs ++ ys) ≡ length xs + from =
    omega (arith, length-append xs ys, other_line xs ys e, within) in
    ap (λ n. character_count (drop n (xs ++ ys)) + 1) place ∙ ap (λ l. character_count l + 1) (drop-append-add xs ys from)

-- ---- of a file's bytes, from one place to another

-- what is read further
abbrev pub skipped : List ℕ → ℕ → ℕ → List ℕ
skipped bytes a b = take (b - a) (drop a bytes)

further : (bytes : List ℕ) (a b : ℕ) → a ≤ b → take b bytes ≡ take a bytes ++ skipped bytes a b
further bytes a b le =
    let sum : b ≡ a + (b - a) = omega arith in
    ap (λ n. take n bytes) sum ∙ take-add a (b - a) bytes

length-skipped : (bytes : List ℕ) (a b : ℕ) → a ≤ b → b ≤ length bytes → length (skipped bytes a b) ≡ b - a
length-skipped bytes a b le within = length-take-le (b - a) (drop a bytes) (omega (arith, length-drop a bytes))

pub line_further : (bytes : List ℕ) (a b : ℕ) → a ≤ b → line_of bytes b ≡ line_of bytes a + newline_count (skipped bytes a b)
line_further bytes a b le =
    let sum : newline_count (take a bytes ++ skipped bytes a b) ≡ newline_count (take a bytes) + newline_count (skipped bytes a b) =
    sum_by-append _ (take a bytes) (skipped bytes a b) in
    ap (λ l. newline_count l + 1) (further bytes a b le) ∙ omega (arith, sum)

pub same_begins : (bytes : List ℕ) (a b : ℕ) → a ≤ b → b ≤ length bytes → last_line_len (skipped bytes a b) ≡ length (skipped bytes a b) → a - last_line_len (take a bytes) ≡ b - last_line_len (take b bytes)
same_begins bytes a b le within e =
    let more = ap last_line_len (further bytes a b le) ∙ same_line (take a bytes) (skipped bytes a b) e in
    omega (arith, more, length-skipped bytes a b le within)

pub same_column_of : (bytes : List ℕ) (a b : ℕ) → a ≤ b → last_line_len (skipped bytes a b) ≡ length (skipped bytes a b) → column_of bytes b ≡ column_of bytes a + character_count (skipped bytes a b)
same_column_of bytes a b le e = ap column_behind (further bytes a b le) ∙ same_column (take a bytes) (skipped bytes a b) e

pub other_begins : (bytes : List ℕ) (a b : ℕ) → a ≤ b → eqb (last_line_len (skipped bytes a b)) (length (skipped bytes a b)) ≡ false → last_line_len (take b bytes) ≡ last_line_len (skipped bytes a b)
other_begins bytes a b le e = ap last_line_len (further bytes a b le) ∙ other_line (take a bytes) (skipped bytes a b) e

pub other_column_of : (bytes : List ℕ) (a b : ℕ) → a ≤ b → eqb (last_line_len (skipped bytes a b)) (length (skipped bytes a b)) ≡ false → column_of bytes b ≡ column_behind (skipped bytes a b)
other_column_of bytes a b le e = ap column_behind (further bytes a b le) ∙ other_column (take a bytes) (skipped bytes a b) e
