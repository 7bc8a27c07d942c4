-- White space at the front of a text.
use Rattle.std.proofs.Common.{◌≡◌, ℕ, ◌+◌, ◌<◌, ◌&&◌, get_or, arith, subst, true, false, cond, List, [], ◌∷◌, ◌++◌, length, take, drop, refl, sym, ◌∙◌, ap, IsUtf8, lt-ltb, encode_utf8_all, nat_lt, ◌-◌, lit<}
use Rattle.std.specs.Str.{chars}
use Rattle.std.specs.List.{prefix_len}
use Rattle.std.specs.Str.{trim_start, skip_leading_whitespace, chars_after}
use Rattle.std.specs.Str as text
use Rattle.std.specs.Char.{is_whitespace}
use Rattle.std.proofs.lemmas.List.{take-append-drop}
use Rattle.std.proofs.lemmas.Str.{encodes-chars, encodes-append, chars-nil, encode_ascii}
use Rattle.std.proofs.Math.Seq.{drop-append_seam}
use Rattle.std.proofs.Math.Numerals.{one-add}
use Rattle.std.specs.Prelude.{take_while}
use Rattle.std.specs.Str.{all_scalars}
use Rattle.std.specs.List.{list_all}
use Rattle.std.proofs.lemmas.Str.{scalars-chars, IsCharBoundary-at_seam}
use Rattle.std.proofs.Math.Seq.{take-append_seam}
use Rattle.std.proofs.Common.{IsCharBoundary}
use Rattle.std.proofs.lemmas.Bool.Decides.{nat_tests}
use lib.Utf8.{scalar}
use Rattle.spdx_lexer.specs.Text.{white}
use Rattle.spdx_lexer.specs.Layout.{IsWhite}
use Rattle.spdx_lexer.proofs.Front.{front_passes, and_both}

skips : (cs : List ℕ) → skip_leading_whitespace cs ≡ drop (prefix_len is_whitespace cs) cs
skips [] = refl
skips (c ∷ cs) = elim (is_whitespace c) as (λ b. cond b (skip_leading_whitespace cs) (c ∷ cs) ≡ drop (cond b (1 + prefix_len is_whitespace cs) 0) (c ∷ cs)) [
  | true ↦ rw (one-add (prefix_len is_whitespace cs)) (skips cs)
  | false ↦ refl
]

-- `trim_start` drops the white space
pub trims : (bs : List ℕ) → IsUtf8 bs → trim_start bs ≡ drop (white bs) bs
unfolding trim_start
trims bs u =
    let ws = take_while is_whitespace (chars bs) in
    let cs = drop (prefix_len is_whitespace (chars bs)) (chars bs) in
    let all : bs ≡ encode_utf8_all ws ++ encode_utf8_all cs = sym (encodes-chars bs u) ∙ ap encode_utf8_all (sym (take-append-drop (prefix_len is_whitespace (chars bs)) (chars bs))) ∙ encodes-append ws cs in
    ap encode_utf8_all (skips (chars bs)) ∙ sym (drop-append_seam (encode_utf8_all ws) (encode_utf8_all cs)) ∙ ap (drop (white bs)) (sym all)

one_char : (b : ℕ) (bs : List ℕ) → chars_after 0 b bs ≡ b ∷ chars bs
unfolding text.chars
one_char b [] = refl
one_char b (d ∷ bs) = refl

-- a text that begins with an ASCII character
pub chars_ascii : (b : ℕ) (bs : List ℕ) → b < 128 → chars (b ∷ bs) ≡ b ∷ chars bs
unfolding text.chars
chars_ascii b bs h =
    let small : nat_lt b 128 ≡ true = lt-ltb b 128 h in
    ap (λ t. chars_after (cond t 0 (cond (nat_lt b 224) 1 (cond (nat_lt b 240) 2 3))) (cond t b (cond (nat_lt b 224) (b - 192) (cond (nat_lt b 240) (b - 224) (b - 240)))) bs) small ∙ one_char b bs

pub white_space : (bs : List ℕ) → white (32 ∷ bs) ≡ 1 + white bs
white_space bs = ap (λ (cs : List ℕ). length (encode_utf8_all (take_while is_whitespace cs))) (chars_ascii 32 bs (lit< tt))
    ∙ ap (λ n. length (encode_utf8_all (take n (32 ∷ chars bs)))) (one-add (prefix_len is_whitespace (chars bs)))
    ∙ ap (λ (e : List ℕ). length (e ++ encode_utf8_all (take_while is_whitespace (chars bs)))) (encode_ascii 32 (lit< tt)) ∙ sym (one-add (white bs))

pub white_none : (b : ℕ) (bs : List ℕ) → b < 128 → is_whitespace b ≡ false → white (b ∷ bs) ≡ 0
white_none b bs h w =
    ap (λ (cs : List ℕ). length (encode_utf8_all (take_while is_whitespace cs))) (chars_ascii b bs h)
    ∙ ap (λ t. length (encode_utf8_all (take (cond t (1 + prefix_len is_whitespace (chars bs)) 0) (b ∷ chars bs)))) w

pub white_nil : white [] ≡ 0
white_nil = rw chars-nil refl

scalars_rest : (cs ds : List ℕ) → all_scalars (cs ++ ds) ≡ true → all_scalars ds ≡ true
scalars_rest [] ds e = e
scalars_rest (c ∷ cs) ds e = scalars_rest cs ds (and_both (scalar c) (all_scalars (cs ++ ds)) e).1

all_white : (cs : List ℕ) → list_all is_whitespace (take_while is_whitespace cs) ≡ true
all_white cs = front_passes is_whitespace cs

-- the white space of a text is cut off on a boundary
pub white_front : (bs : List ℕ) → IsUtf8 bs → IsWhite (take (white bs) bs) × IsCharBoundary bs (white bs)
white_front bs u =
    let cs = chars bs in
    let n = prefix_len is_whitespace cs in
    let ws : List ℕ = take_while is_whitespace cs in
    let ds : List ℕ = drop n cs in
    let parts : ws ++ ds ≡ cs = take-append-drop n cs in
    let all : bs ≡ encode_utf8_all ws ++ encode_utf8_all ds = sym (encodes-chars bs u) ∙ ap encode_utf8_all (sym parts) ∙ encodes-append ws ds in
    let front : take (white bs) bs ≡ encode_utf8_all ws = ap (take (white bs)) all ∙ take-append_seam (encode_utf8_all ws) (encode_utf8_all ds) in
    let rest : IsUtf8 (encode_utf8_all ds) = (ds, (scalars_rest ws ds (ap all_scalars parts ∙ scalars-chars bs u), refl)) in
    ((ws, (all_white cs, front)), IsCharBoundary-at_seam bs (encode_utf8_all ws) (encode_utf8_all ds) all rest)

seen_white : (b : ℕ) → (nat_lt 32 b && nat_lt b 128) ≡ true → (b < 128) × (is_whitespace b ≡ false)
seen_white b h = (grind (arith, nat_tests), grind (arith, nat_tests))

-- a text that begins with a seen ASCII character begins with no white space
pub white_seen : (bs : List ℕ) → 0 < length bs → (nat_lt 32 (get_or bs 0 0) && nat_lt (get_or bs 0 0) 128) ≡ true → white bs ≡ 0
white_seen [] l h = absurd (omega arith)
white_seen (b ∷ bs) l h = let s = seen_white b h in white_none b bs s.0 s.1

-- a blank before one is all white space
pub white_blank : (bs : List ℕ) → 1 < length bs → get_or bs 0 0 ≡ 32 → (nat_lt 32 (get_or bs 1 0) && nat_lt (get_or bs 1 0) 128) ≡ true → white bs ≡ 1
white_blank [] l e h = absurd (omega arith)
white_blank (b ∷ bs) l e h =
    subst (λ (k : ℕ). white (k ∷ bs) ≡ 1) (sym e) (white_space bs ∙ ap (λ (k : ℕ). 1 + k) (white_seen bs (omega arith) h))
