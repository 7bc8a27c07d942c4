-- UTF-8 on both sides of an ASCII byte, and so around the literals of a text.
use Rattle.std.proofs.Common.{◌≡◌, ℕ, zero, suc, ◌+◌, ◌-◌, ◌/◌, ◌%◌, ◌<◌, ◌≤◌, Bool, true, false, cond, ◌==◌, List, [], ◌∷◌, ◌++◌, length, get_or, take, drop, Some, refl, sym, ap, ◌∙◌, subst, arith, append_assoc, length-append}
use Rattle.std.proofs.Math.Seq.{take-append_seam, drop-append-add, get_or-append_seam}
use Rattle.std.proofs.lemmas.Bool.{lt-ltb}
use Rattle.std.proofs.lemmas.List.Folds.{drop_split}
use Rattle.std.proofs.lemmas.Str.{IsUtf8-nil, IsUtf8-from_ascii, IsUtf8-append, IsUtf8-take, IsUtf8-drop, IsCharBoundary-before_ascii, IsCharBoundary-after_ascii}
use Rattle.std.specs.Prelude.{slice_get, slice_range, slice_index, IsUtf8}
use Rattle.std.specs.Fmt.{digit_glyph, digits_onto, digits, decimal}
use Rattle.text_places.specs.declared.Span.{Span}
use Rattle.text_places.specs.Order.{AreInOrder}
use Rattle.text_places.specs.Marks.{mark_text, mark, marked_from, marked}
use Rattle.json_places.specs.Mended.{with_literal}

-- ---- an ASCII byte

-- before it and behind it the text is UTF-8
pub IsUtf8-beside : (a b : List ℕ) (c : ℕ) → c < 128 → IsUtf8 (a ++ c ∷ b) → IsUtf8 a × IsUtf8 b
IsUtf8-beside a b c low u =
    let long : length a < length (a ++ c ∷ b) = omega (arith, length-append a (c ∷ b)) in
    let byte : get_or (a ++ c ∷ b) (length a) 0 < 128 = subst (λ k. k < 128) (sym (get_or-append_seam a c b 0)) low in (
      subst IsUtf8 (take-append_seam a (c ∷ b)) (IsUtf8-take (a ++ c ∷ b) (length a) u (IsCharBoundary-before_ascii (a ++ c ∷ b) (length a) long byte)),
      subst IsUtf8 (drop-append-add a (c ∷ b) 1) (IsUtf8-drop (a ++ c ∷ b) (length a + 1) u (IsCharBoundary-after_ascii (a ++ c ∷ b) (length a) u long byte)),
    )

ascii_alone : (c : ℕ) → c < 128 → (i : ℕ) → slice_index (c ∷ []) i < 128
ascii_alone c low zero = low
ascii_alone c low (suc i) = omega arith

-- put before such a text, it leaves it so
pub IsUtf8-cons : (c : ℕ) (b : List ℕ) → c < 128 → IsUtf8 b → IsUtf8 (c ∷ b)
IsUtf8-cons c b low u = IsUtf8-append (c ∷ []) b (IsUtf8-from_ascii (c ∷ []) (ascii_alone c low)) u

-- and between two
pub IsUtf8-between_both : (a b : List ℕ) (c : ℕ) → c < 128 → IsUtf8 a → IsUtf8 b → IsUtf8 (a ++ c ∷ b)
IsUtf8-between_both a b c low u v = IsUtf8-append a (c ∷ b) u (IsUtf8-cons c b low v)

-- ---- a mark

either_utf8 : (b : Bool) (x y : List ℕ) → IsUtf8 x → IsUtf8 y → IsUtf8 (cond b x y)
either_utf8 true x y p q = p
either_utf8 false x y p q = q

glyph_low : (d : ℕ) → d < 10 → digit_glyph false d < 128
glyph_low d h =
    let e : digit_glyph false d ≡ 48 + d = ap (λ b. cond b (48 + d) (87 + d)) (lt-ltb d 10 h) in
    subst (λ x. x < 128) (sym e) (omega arith)

digits_utf8 : (k n : ℕ) (acc : List ℕ) → IsUtf8 acc → IsUtf8 (digits_onto k 10 false n acc)
digits_utf8 zero n acc h = h
digits_utf8 (suc k) n acc h =
    let small : n % 10 < 10 = omega arith in
    let more = IsUtf8-cons (digit_glyph false (n % 10)) acc (glyph_low (n % 10) small) h in
    either_utf8 (n / 10 == 0) _ _ more (digits_utf8 k (n / 10) (digit_glyph false (n % 10) ∷ acc) more)

decimal_utf8 : (n : ℕ) → IsUtf8 (decimal n)
unfolding digits
decimal_utf8 n = digits_utf8 64 n [] IsUtf8-nil

pub IsUtf8-mark : (n : ℕ) → IsUtf8 (mark n)
IsUtf8-mark n = IsUtf8-cons 34 _ (omega arith) (IsUtf8-between_both (mark_text n) [] 34 (omega arith) (IsUtf8-cons 35 (decimal n) (omega arith) (decimal_utf8 n)) IsUtf8-nil)

-- ---- around a literal

-- the bytes stand between two quotes
pub record IsQuoted (literal : List ℕ) : Type 0 where
  pub inner : List ℕ
  pub quoted : literal ≡ 34 ∷ (inner ++ 34 ∷ [])

-- a literal, what stands before it from an offset on, and what stands behind it
pub record AreUtf8 (text : List ℕ) (offset : ℕ) (span : Span) : Type 0 where
  pub before : IsUtf8 (slice_range text offset span.start)
  pub literal : IsUtf8 (slice_range text span.start span.end)
  pub behind : IsUtf8 (drop span.end text)

pub AreUtf8-around : (text : List ℕ) (offset : ℕ) (span : Span) → offset ≤ span.start → span.start ≤ span.end → IsQuoted (slice_range text span.start span.end)
    → IsUtf8 (drop offset text) → AreUtf8 text offset span
AreUtf8-around text offset span begins ordered q u =
    let before = slice_range text offset span.start in
    let rest = drop span.end text in
    let split : drop offset text ≡ before ++ 34 ∷ (q.inner ++ 34 ∷ rest) =
    drop_split text offset span.start begins
    ∙ ap (λ l. slice_range text offset span.start ++ l) (drop_split text span.start span.end ordered ∙ ap (λ l. l ++ drop span.end text) q.quoted ∙ ap (λ l. 34 ∷ l) (append_assoc q.inner (34 ∷ []) (drop span.end text))) in
    let first = IsUtf8-beside before (q.inner ++ 34 ∷ rest) 34 (omega arith) (subst IsUtf8 split u) in
    let last = IsUtf8-beside q.inner rest 34 (omega arith) first.1 in
    record {
      before = first.0;
      literal = subst IsUtf8 (sym q.quoted) (IsUtf8-cons 34 (q.inner ++ 34 ∷ []) (omega arith) (IsUtf8-between_both q.inner [] 34 (omega arith) last.0 IsUtf8-nil));
      behind = last.1;
    }

-- ---- with a mark for each literal, and with another literal for one

marked_utf8 : (n offset : ℕ) (text : List ℕ) (spans : List Span) (high : ℕ) → AreInOrder offset spans high
    → ((k : ℕ) (span : Span) → slice_get spans k ≡ Some span → IsQuoted (slice_range text span.start span.end))
    → IsUtf8 (drop offset text) → IsUtf8 (marked_from n offset text spans)
marked_utf8 n offset text [] high h q u = u
marked_utf8 n offset text (s ∷ spans) high h q u =
    let parts = AreUtf8-around text offset s h.0 h.1 (q 0 s refl) u in
    IsUtf8-append (slice_range text offset s.start) (mark n ++ marked_from (n + 1) s.end text spans) parts.before
    (IsUtf8-append (mark n) (marked_from (n + 1) s.end text spans) (IsUtf8-mark n) (marked_utf8 (n + 1) s.end text spans high h.2 (λ k span e. q (suc k) span e) parts.behind))

pub IsUtf8-marked : (text : List ℕ) (spans : List Span) (high : ℕ) → AreInOrder 0 spans high
    → ((k : ℕ) (span : Span) → slice_get spans k ≡ Some span → IsQuoted (slice_range text span.start span.end))
    → IsUtf8 text → IsUtf8 (marked text spans)
IsUtf8-marked text spans high h q u = marked_utf8 0 0 text spans high h q u

pub IsUtf8-with_literal : (text : List ℕ) (span : Span) (new : List ℕ) → AreUtf8 text 0 span → IsUtf8 new → IsUtf8 (with_literal text span new)
IsUtf8-with_literal text span new parts u =
    let whole : span.start - 0 ≡ span.start = omega arith in
    IsUtf8-between_both (take span.start text) (new ++ 34 ∷ drop span.end text) 34 (omega arith) (subst (λ n. IsUtf8 (take n text)) whole parts.before)
    (IsUtf8-between_both new (drop span.end text) 34 (omega arith) u parts.behind)
