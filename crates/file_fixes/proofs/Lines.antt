-- The places of the expressions of lines lie in order within the text.
use Rattle.std.proofs.Common.{◌≡◌, ℕ, ◌+◌, ◌-◌, ◌≤◌, Bool, true, false, cond, nat_eq, List, [], ◌∷◌, ◌++◌, length, take, map, refl, arith}
use Rattle.std.specs.Prelude.{slice_index}
use Rattle.std.proofs.lemmas.List.{length-take}
use Rattle.line_engine.specs.Lines.{Cut, cut, onto_first, last_line, lines_of}
use Rattle.license_tags.specs.declared.Tag.{Tag}
use Rattle.license_tags.specs.Tags.{AreInOrder as AreTagsInOrder}
use Rattle.file_fixes.specs.declared.Span.{Span}
use Rattle.file_fixes.specs.Mending.{AreInOrder}
use Rattle.spdx_check.specs.Checking.{expression_of, is_blank}
use Rattle.file_fixes.specs.Spans.{spans_from, line_spans, span_of}

-- ---- the expression of a line is no longer than the line

cut_short : (n : ℕ) (line : List ℕ) (t : Bool) → length (cond t (take n line) line) ≤ length line
cut_short n line true = omega (arith, length-take n line)
cut_short n line false = omega arith

pub expression_fits : (line : List ℕ) → length (expression_of line) ≤ length line
expression_fits line = cut_short (length line - 1) line (nat_eq (slice_index line (length line - 1)) 13)

-- ---- how long lines are with their newlines

abbrev pub total : List (List ℕ) → ℕ
total [] = 0
total (line ∷ lines) = (length line + 1) + total lines

total-append : (xs ys : List (List ℕ)) → total (xs ++ ys) ≡ total xs + total ys
total-append [] ys = omega arith
total-append (x ∷ xs) ys = omega (arith, total-append xs ys)

cut_length : Cut → ℕ
cut_length c = total c.whole + length c.rest

onto_length : (b : ℕ) (whole : List (List ℕ)) (rest : List ℕ) → total (onto_first b whole rest).whole + length (onto_first b whole rest).rest ≡ 1 + (total whole + length rest)
onto_length b [] rest = omega arith
onto_length b (line ∷ lines) rest = omega arith

before_length : (b : ℕ) (c : Cut) (t : Bool) → (let d : Cut = cond t (record { whole = [] ∷ c.whole; rest = c.rest }) (onto_first b c.whole c.rest) in total d.whole + length d.rest ≡ 1 + (total c.whole + length c.rest))
before_length b c true = omega arith
before_length b c false = onto_length b c.whole c.rest

cut_total : (bytes : List ℕ) → total (cut bytes).whole + length (cut bytes).rest ≡ length bytes
cut_total [] = refl
cut_total (b ∷ bs) = omega (arith, before_length b (cut bs) (nat_eq b 10), cut_total bs)

last_total : (rest : List ℕ) → total (last_line rest) ≤ length rest + 1
last_total [] = omega arith
last_total (b ∷ bs) = omega arith

lines_total : (bytes : List ℕ) → total (lines_of bytes) ≤ length bytes + 1
lines_total bytes =
    omega (arith, total-append (cut bytes).whole (last_line (cut bytes).rest), cut_total bytes, last_total (cut bytes).rest)

-- ---- in order

AreInOrder-lower : (low lower : ℕ) (ss : List Span) (high : ℕ) → lower ≤ low → AreInOrder low ss high → AreInOrder lower ss high
AreInOrder-lower low lower [] high l h = omega (arith, h)
AreInOrder-lower low lower (s ∷ ss) high l h = (omega (arith, h.0), h.1, h.2)

one_more : (low offset end high : ℕ) (ss : List Span) (t : Bool) → low ≤ offset → offset ≤ end → AreInOrder end ss high →
    AreInOrder low (cond t [] (record { start = offset; end = end } ∷ []) ++ ss) high
one_more low offset end high ss true l o h = AreInOrder-lower end low ss high (omega (arith, l, o)) h
one_more low offset end high ss false l o h = (l, o, h)

spans_in_order : (low offset : ℕ) (lines : List (List ℕ)) (high : ℕ) → low ≤ offset → low ≤ high → offset + total lines ≤ high + 1 → AreInOrder low (spans_from offset lines) high
spans_in_order low offset [] high l h t = h
spans_in_order low offset (line ∷ lines) high l h t =
    let fits = expression_fits line in
    let end = offset + length (expression_of line) in
    one_more low offset end high (spans_from (offset + (length line + 1)) lines) (is_blank (expression_of line)) l (omega arith)
    (spans_in_order end (offset + (length line + 1)) lines high (omega (arith, fits)) (omega (arith, fits, t)) (omega (arith, t)))

pub lines_in_order : (bytes : List ℕ) → AreInOrder 0 (line_spans bytes) (length bytes)
lines_in_order bytes = spans_in_order 0 0 (lines_of bytes) (length bytes) (omega arith) (omega arith) (omega (arith, lines_total bytes))

pub tags_in_order : (low : ℕ) (tags : List Tag) (high : ℕ) → AreTagsInOrder low tags high → AreInOrder low (map span_of tags) high
tags_in_order low [] high h = h
tags_in_order low (tag ∷ tags) high h = (h.0, h.1, tags_in_order tag.end tags high h.2)

pub no_lines : (bytes : List ℕ) → length bytes ≡ 0 → lines_of bytes ≡ []
no_lines [] e = refl
no_lines (b ∷ bs) e = absurd (omega (arith, e))
