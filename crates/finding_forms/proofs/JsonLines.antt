-- A line of JSON reads back, and has no newline.
use Rattle.std.proofs.Common.{◌≡◌, ◌≢◌, ℕ, zero, suc, ◌/◌, ◌%◌, ◌<◌, ◌≤◌, List, [], ◌∷◌, ◌++◌, Bool, true, false, cond, ltb, ◌==◌, ◌&&◌, Some, option_and_then, decimal, codes, refl, sym, ap, ◌∙◌, append-nil, arith}
use Rattle.std.proofs.lemmas.Bool.Decides.{nat_tests}
use borrow.Author.Tests.{ltb-true, ltb-false}
use Rattle.std.specs.Char.{digit_char}
use Rattle.std.specs.Fmt.{digits, digits_onto, digit_glyph}
use Rattle.json.specs.Token.{Token, begin_object, end_object, begin_array, end_array, key, string, number, boolean, null, bad}
use Rattle.json.specs.Lex.{tokens}
use Rattle.json.specs.Json.{Json, value, if_last, max_depth, document}
use Rattle.json.specs.Print.{print_from, escape_letter, escape_byte, escape, quoted}
use Rattle.json.specs.Tree.{json_tokens, items_tokens, depth, items_depth}
use Rattle.json.proofs.Printed.Trees.{value-json_tokens}
use Rattle.finding_forms.specs.Json.{texts_of, HasNoNewline}

-- ---- what the tokens say

pub items_depth-texts_of : (texts : List (List ℕ)) → items_depth (texts_of texts) ≡ 0
items_depth-texts_of [] = refl
items_depth-texts_of (text ∷ texts) = omega (arith, items_depth-texts_of texts)

pub document-from : (text : List ℕ) (j : Json) → tokens text ≡ json_tokens j → depth j ≤ max_depth → document text ≡ Some j
document-from text j e shallow =
    ap (option_and_then (λ p. if_last p.0 p.1))
    (ap (value max_depth) (e ∙ sym (append-nil (json_tokens j))) ∙ value-json_tokens j max_depth [] shallow)

-- ---- no newline

pub joined : (xs ys : List ℕ) → HasNoNewline xs → HasNoNewline ys → HasNoNewline (xs ++ ys)
joined [] ys h k = k
joined (x ∷ xs) ys h k = (h.0, joined xs ys h.1 k)

glyph : (d : ℕ) → digit_char d ≢ 10
glyph d = grind (arith, nat_tests)

escaped_letter : (x : ℕ) → 0 < escape_letter x → escape_letter x ≢ 10
escaped_letter x = grind (arith, nat_tests)

no_letter : (x : ℕ) → escape_letter x ≡ 0 → x ≢ 10
no_letter x = grind (arith, nat_tests)

-- the bytes for a byte with this letter, or none
escaped_so : (x l : ℕ) (has is_low : Bool) → (has ≡ true → l ≢ 10) → (has ≡ false → x ≢ 10) → HasNoNewline (cond has (92 ∷ l ∷ []) (cond is_low (92 ∷ 117 ∷ 48 ∷ 48 ∷ digit_char (x / 16) ∷ digit_char (x % 16) ∷ []) (x ∷ [])))
escaped_so x l true is_low h k = (omega arith, (h refl, tt))
escaped_so x l false true h k = (omega arith, (omega arith, (omega arith, (omega arith, (glyph (x / 16), (glyph (x % 16), tt))))))
escaped_so x l false false h k = (k refl, tt)

one_line-escape_byte : (x : ℕ) → HasNoNewline (escape_byte x)
unfolding escape_byte
one_line-escape_byte x =
    escaped_so x (escape_letter x) (ltb 0 (escape_letter x)) (ltb x 32) (λ has. escaped_letter x (omega (arith, ltb-true, has))) (λ has. no_letter x (omega (arith, ltb-false, has)))

one_line-escape : (s : List ℕ) → HasNoNewline (escape s)
one_line-escape [] = tt
one_line-escape (x ∷ s) = joined (escape_byte x) (escape s) (one_line-escape_byte x) (one_line-escape s)

one_line-quoted : (s : List ℕ) → HasNoNewline (quoted s)
one_line-quoted s = (omega arith, joined (escape s) (34 ∷ []) (one_line-escape s) (omega arith, tt))

a_glyph : (upper : Bool) (d : ℕ) → digit_glyph upper d ≢ 10
a_glyph true d = grind (arith, nat_tests)
a_glyph false d = grind (arith, nat_tests)

either : (b : Bool) (xs ys : List ℕ) → HasNoNewline xs → HasNoNewline ys → HasNoNewline (cond b xs ys)
either true xs ys h k = h
either false xs ys h k = k

pub one_line-digits_onto : (k base n : ℕ) (upper : Bool) (acc : List ℕ) → HasNoNewline acc → HasNoNewline (digits_onto k base upper n acc)
one_line-digits_onto zero base n upper acc h = h
one_line-digits_onto (suc k) base n upper acc h =
    either (n / base == 0) (digit_glyph upper (n % base) ∷ acc) (digits_onto k base upper (n / base) (digit_glyph upper (n % base) ∷ acc))
    (a_glyph upper (n % base), h) (one_line-digits_onto k base (n / base) upper (digit_glyph upper (n % base) ∷ acc) (a_glyph upper (n % base), h))

pub one_line-decimal : (n : ℕ) → HasNoNewline (decimal n)
unfolding digits
one_line-decimal n = one_line-digits_onto 64 10 n false [] tt

-- these are tokens whose numbers have no newline
abbrev pub AreOneLine : List Token → Type 0
AreOneLine [] = Unit {0}
AreOneLine (begin_object ∷ ts) = AreOneLine ts
AreOneLine (end_object ∷ ts) = AreOneLine ts
AreOneLine (begin_array ∷ ts) = AreOneLine ts
AreOneLine (end_array ∷ ts) = AreOneLine ts
AreOneLine (key s ∷ ts) = AreOneLine ts
AreOneLine (string s ∷ ts) = AreOneLine ts
AreOneLine (number s ∷ ts) = HasNoNewline s × AreOneLine ts
AreOneLine (boolean b ∷ ts) = ⊥
AreOneLine (null ∷ ts) = AreOneLine ts
AreOneLine (bad ∷ ts) = ⊥

one_line-separator : (b : Bool) (rest : List ℕ) → HasNoNewline rest → HasNoNewline (cond b (44 ∷ []) [] ++ rest)
one_line-separator true rest h = (omega arith, h)
one_line-separator false rest h = h

pub one_line-print_from : (b : Bool) (ts : List Token) → AreOneLine ts → HasNoNewline (print_from b ts)
unfolding print_from
one_line-print_from b [] h = tt
one_line-print_from b (begin_object ∷ ts) h = one_line-separator (b && true) (123 ∷ print_from false ts) (omega arith, one_line-print_from false ts h)
one_line-print_from b (end_object ∷ ts) h = one_line-separator (b && false) (125 ∷ print_from true ts) (omega arith, one_line-print_from true ts h)
one_line-print_from b (begin_array ∷ ts) h = one_line-separator (b && true) (91 ∷ print_from false ts) (omega arith, one_line-print_from false ts h)
one_line-print_from b (end_array ∷ ts) h = one_line-separator (b && false) (93 ∷ print_from true ts) (omega arith, one_line-print_from true ts h)
one_line-print_from b (key s ∷ ts) h =
    one_line-separator (b && true) ((quoted s ++ 58 ∷ []) ++ print_from false ts)
    (joined (quoted s ++ 58 ∷ []) (print_from false ts) (joined (quoted s) (58 ∷ []) (one_line-quoted s) (omega arith, tt)) (one_line-print_from false ts h))
one_line-print_from b (string s ∷ ts) h =
    one_line-separator (b && true) (quoted s ++ print_from true ts) (joined (quoted s) (print_from true ts) (one_line-quoted s) (one_line-print_from true ts h))
one_line-print_from b (number s ∷ ts) h =
    one_line-separator (b && true) (s ++ print_from true ts) (joined s (print_from true ts) h.0 (one_line-print_from true ts h.1))
one_line-print_from b (boolean x ∷ ts) h = absurd h
one_line-print_from b (null ∷ ts) h =
    one_line-separator (b && true) (codes "null" ++ print_from true ts) (omega arith, (omega arith, (omega arith, (omega arith, one_line-print_from true ts h))))
one_line-print_from b (bad ∷ ts) h = absurd h

pub texts_one_line : (texts : List (List ℕ)) (ts : List Token) → AreOneLine ts → AreOneLine (items_tokens (texts_of texts) ++ ts)
texts_one_line [] ts h = h
texts_one_line (text ∷ texts) ts h = texts_one_line texts ts h
