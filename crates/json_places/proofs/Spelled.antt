-- Literals that are written without an escape, and the two ways in which a text is spelled anew.
use Rattle.std.proofs.Common.{◌≡◌, ◌≢◌, ℕ, zero, suc, ◌+◌, ◌-◌, ◌/◌, ◌%◌, ◌<◌, ◌≤◌, Bool, true, false, cond, ◌==◌, List, [], ◌∷◌, ◌++◌, length, take, drop, Some, refl, sym, ap, ◌∙◌, subst, arith, append_assoc, append-nil}
use Rattle.std.proofs.Math.Seq.{take-add}
use Rattle.std.proofs.lemmas.Bool.{eq-eqb, ne_eqb, lt-ltb, le-ltb}
use Rattle.std.proofs.lemmas.List.{take-append-drop, drop-drop}
use Rattle.std.specs.Prelude.{slice_get, slice_range, if◌then◌else◌}
use Rattle.std.specs.Fmt.{digit_glyph, digits_onto, digits, decimal}
use Rattle.text_places.specs.declared.Span.{Span}
use Rattle.text_places.specs.Order.{AreInOrder}
use Rattle.text_places.specs.Marks.{mark_text, mark, marked_from, marked}
use Rattle.json.specs.Token as json
use Rattle.json.specs.Text.{content, plain}
use Rattle.json.specs.Lex.{token, between, lex, punctuate}
use Rattle.json.specs.Json.{items, members, value}
use Rattle.serde_json.specs.Data.{string}
use Rattle.serde_json.specs.Read.{read}
use Rattle.json_places.specs.Literals.{quoted_len}
use Rattle.json_places.specs.Mended.{with_literal}
use Rattle.json_places.proofs.Retext.{IsText, respelled, read_lexemes}
use Rattle.json_places.proofs.Quoted.{quoted_len-inside, content-inside, lex-IsText}

-- ---- a text that needs no escape

-- no byte is a quote, a backslash or a control character
abbrev pub ArePlain : List ℕ → Type 0
ArePlain [] = Unit {0}
ArePlain (x ∷ xs) = ((x ≢ 34) × (x ≢ 92) × (32 ≤ x)) × ArePlain xs

content-plain : (s behind : List ℕ) → ArePlain s → content plain (s ++ 34 ∷ behind) ≡ Some s
unfolding content
content-plain [] behind h = refl
content-plain (x ∷ s) behind h =
    content-inside x (s ++ 34 ∷ behind) s (ne_eqb x 34 h.0.0, ne_eqb x 92 h.0.1) (le-ltb x 32 h.0.2) (content-plain s behind h.1)

quoted_len-plain : (s behind : List ℕ) → ArePlain s → quoted_len false (s ++ 34 ∷ behind) ≡ length s + 1
quoted_len-plain [] behind h = refl
quoted_len-plain (x ∷ s) behind h =
    omega (arith, quoted_len-inside x (s ++ 34 ∷ behind) (ne_eqb x 34 h.0.0, ne_eqb x 92 h.0.1), quoted_len-plain s behind h.1)

-- its literal is it in quotes
pub IsText-plain : (new : List ℕ) → ArePlain new → IsText (34 ∷ (new ++ 34 ∷ [])) new
IsText-plain new h = record { inner = new; quoted = refl; is = λ behind. content-plain new behind h; ends = λ behind. quoted_len-plain new behind h }

glyph_plain : (d : ℕ) → d < 10 → (digit_glyph false d ≢ 34) × (digit_glyph false d ≢ 92) × (32 ≤ digit_glyph false d)
glyph_plain d h =
    let e : digit_glyph false d ≡ 48 + d = ap (λ b. cond b (48 + d) (87 + d)) (lt-ltb d 10 h) in
    subst (λ x. (x ≢ 34) × (x ≢ 92) × (32 ≤ x)) (sym e) ((λ q. omega arith), (λ q. omega arith), omega arith)

either_plain : (b : Bool) (x y : List ℕ) → ArePlain x → ArePlain y → ArePlain (cond b x y)
either_plain true x y p q = p
either_plain false x y p q = q

digits_plain : (k n : ℕ) (acc : List ℕ) → ArePlain acc → ArePlain (digits_onto k 10 false n acc)
digits_plain zero n acc h = h
digits_plain (suc k) n acc h =
    let small : n % 10 < 10 = omega arith in
    let more : ArePlain (digit_glyph false (n % 10) ∷ acc) = (glyph_plain (n % 10) small, h) in
    either_plain (n / 10 == 0) _ _ more (digits_plain k (n / 10) (digit_glyph false (n % 10) ∷ acc) more)

decimal_plain : (n : ℕ) → ArePlain (decimal n)
unfolding digits
decimal_plain n = digits_plain 64 n [] tt

-- a mark is the literal of its text
pub IsText-mark : (n : ℕ) → IsText (mark n) (mark_text n)
IsText-mark n = IsText-plain (mark_text n) (((λ q. omega arith), (λ q. omega arith), omega arith), decimal_plain n)

-- ---- a literal alone is read as its text

pub read-IsText : (literal s : List ℕ) → IsText literal s → read literal ≡ Some (string s)
unfolding lex punctuate items members value
read-IsText literal s t =
    let alone : lex between literal ≡ token (json.string s) ∷ [] = ap (lex between) (sym (append-nil literal)) ∙ lex-IsText literal s [] t in
    ap read_lexemes alone

-- ---- with marks for all

marks_from : (n offset : ℕ) (text : List ℕ) (spans : List Span) → respelled (λ n span. mark n) n offset text spans ≡ marked_from n offset text spans
marks_from n offset text [] = refl
marks_from n offset text (s ∷ spans) = ap (λ l. slice_range text offset s.start ++ (mark n ++ l)) (marks_from (n + 1) s.end text spans)

pub respelled-marks : (text : List ℕ) (spans : List Span) → respelled (λ n span. mark n) 0 0 text spans ≡ marked text spans
respelled-marks text spans = marks_from 0 0 text spans

-- ---- with another literal for one

slice_drop : (text : List ℕ) (a b : ℕ) → a ≤ b → slice_range text a b ++ drop b text ≡ drop a text
slice_drop text a b h =
    let e : b ≡ a + (b - a) = omega arith in
    ap (λ l. slice_range text a b ++ l) (ap (λ k. drop k text) e ∙ sym (drop-drop (b - a) a text)) ∙ take-append-drop (b - a) (drop a text)

slice_slice : (text : List ℕ) (a b c : ℕ) → a ≤ b → b ≤ c → slice_range text a b ++ slice_range text b c ≡ slice_range text a c
slice_slice text a b c h k =
    let e : b ≡ a + (b - a) = omega arith in
    let sum : (b - a) + (c - b) ≡ c - a = omega arith in
    ap (λ l. slice_range text a b ++ take (c - b) l) (ap (λ n. drop n text) e ∙ sym (drop-drop (b - a) a text))
    ∙ sym (take-add (b - a) (c - b) (drop a text)) ∙ ap (λ n. take n (drop a text)) sum

-- one literal is another, and the others stay
abbrev pub one_other : List ℕ → ℕ → List ℕ → ℕ → Span → List ℕ
one_other text number new n span = if n == number then (34 ∷ (new ++ 34 ∷ [])) else slice_range text span.start span.end

one_past : (text : List ℕ) (number : ℕ) (new : List ℕ) (n low high : ℕ) (spans : List Span) → number < n → AreInOrder low spans high
    → respelled (one_other text number new) n low text spans ≡ drop low text
one_past text number new n low high [] past h = refl
one_past text number new n low high (s ∷ spans) past h =
    let test : (n == number) ≡ false = ne_eqb n number (λ e. omega arith) in
    (λ i. slice_range text low s.start ++ ((cond (test i) (34 ∷ (new ++ 34 ∷ [])) (slice_range text s.start s.end)) ++ one_past text number new (n + 1) s.end high spans (omega arith) h.2 i))
    ∙ ap (λ l. slice_range text low s.start ++ l) (slice_drop text s.start s.end h.1) ∙ slice_drop text low s.start h.0

one_from : (text : List ℕ) (number : ℕ) (new : List ℕ) (n low high k : ℕ) (spans : List Span) (span : Span) → number ≡ n + k → AreInOrder low spans high → slice_get spans k ≡ Some span
    → (low ≤ span.start) × (respelled (one_other text number new) n low text spans ≡ slice_range text low span.start ++ (34 ∷ (new ++ (34 ∷ drop span.end text))))
one_from text number new n low high k [] span at h found = absurd (cc)
one_from text number new n low high zero (s ∷ spans) span at h found =
    let same : s ≡ span = cc in
    let test : (n == number) ≡ true = eq-eqb n number (omega arith) in
    subst (λ (t : Span). (low ≤ t.start) × (respelled (one_other text number new) n low text (s ∷ spans) ≡ slice_range text low t.start ++ (34 ∷ (new ++ (34 ∷ drop t.end text))))) same (
      h.0,
      (λ i. slice_range text low s.start ++ ((cond (test i) (34 ∷ (new ++ 34 ∷ [])) (slice_range text s.start s.end)) ++ one_past text number new (n + 1) s.end high spans (omega arith) h.2 i))
          ∙ ap (λ l. slice_range text low s.start ++ (34 ∷ l)) (append_assoc new (34 ∷ []) (drop s.end text)),
    )
one_from text number new n low high (suc k) (s ∷ spans) span at h found =
    let rest = one_from text number new (n + 1) s.end high k spans span (omega arith) h.2 found in
    let after = rest.0 in
    let begins = h.0 in
    let ordered = h.1 in
    let test : (n == number) ≡ false = ne_eqb n number (λ e. omega arith) in
    let behind = 34 ∷ (new ++ (34 ∷ drop span.end text)) in (
      omega arith,
      (λ i. slice_range text low s.start ++ ((cond (test i) (34 ∷ (new ++ 34 ∷ [])) (slice_range text s.start s.end)) ++ rest.1 i))
          ∙ ap (λ l. slice_range text low s.start ++ l) (sym (append_assoc (slice_range text s.start s.end) (slice_range text s.end span.start) behind) ∙ ap (λ l. l ++ behind) (slice_slice text s.start s.end span.start ordered after))
          ∙ sym (append_assoc (slice_range text low s.start) (slice_range text s.start span.start) behind)
          ∙ ap (λ l. l ++ behind) (slice_slice text low s.start span.start begins (omega arith)),
    )

pub respelled-one : (text : List ℕ) (spans : List Span) (k : ℕ) (span : Span) (new : List ℕ) → AreInOrder 0 spans (length text) → slice_get spans k ≡ Some span
    → respelled (λ n sp. if n == k then (34 ∷ (new ++ 34 ∷ [])) else slice_range text sp.start sp.end) 0 0 text spans ≡ with_literal text span new
respelled-one text spans k span new h found =
    let zeroth : k ≡ 0 + k = omega arith in
    let whole : span.start - 0 ≡ span.start = omega arith in
    (one_from text k new 0 0 (length text) k spans span zeroth h found).1 ∙ ap (λ n. take n text ++ (34 ∷ (new ++ (34 ∷ drop span.end text)))) whole
