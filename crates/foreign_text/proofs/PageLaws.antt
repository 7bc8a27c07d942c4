-- What is put has no markup, and is read as the text.
use Rattle.std.proofs.Common.{◌≡◌, ◌≢◌, ℕ, ◌<◌, ◌≤◌, List, [], ◌∷◌, ◌++◌, Bool, true, false, cond, eqb, ltb, Some, flat_map, chars, codes, refl, sym, ap, ◌∙◌, subst, arith}
use Rattle.std.proofs.lemmas.Bool.Decides.{nat_tests}
use Rattle.std.proofs.Math.Utf8.{encode, encodes}
use Rattle.std.specs.Str.{IsUtf8}
use Rattle.std.proofs.lemmas.Str.{encodes-chars}
use Rattle.foreign_text.specs.Hidden as foreign
use Rattle.foreign_text.proofs.Bytes.{printed_shown}
use Rattle.foreign_text.specs.PageText.{AreSeen, is_hidden, shown_char, shown_text, page_char, page_text, is_mark, HasNoMarkup, read_from, read_text}

-- a choice has what each of its two has
choose : (P : List ℕ → Type 0) (b : Bool) (xs ys : List ℕ) → (b ≡ true → P xs) → (b ≡ false → P ys) → P (cond b xs ys)
choose P true xs ys h k = h refl
choose P false xs ys h k = k refl

same : (c n : ℕ) → eqb c n ≡ true → c ≡ n
same c n = grind (arith, nat_tests)

-- ---- bytes that stand as they are

pub record IsPlain (b : ℕ) : Type 0 where
  pub no_entity : eqb b 38 ≡ false
  pub no_mark : is_mark b ≡ false

abbrev pub ArePlain : List ℕ → Type 0
ArePlain [] = Unit {0}
ArePlain (b ∷ bs) = IsPlain b × ArePlain bs

high_entity : (b : ℕ) → 128 ≤ b → eqb b 38 ≡ false
high_entity b = grind (arith, nat_tests)

high_mark : (b : ℕ) → 128 ≤ b → is_mark b ≡ false
high_mark b = grind (arith, nat_tests)

high : (b : ℕ) → 128 ≤ b → IsPlain b
high b h = record { no_entity = high_entity b h; no_mark = high_mark b h }

plain-encode : (c : ℕ) → IsPlain c → ArePlain (encode c)
unfolding encode
plain-encode c h =
    choose ArePlain (ltb c 128) _ _ (λ _. (h, tt))
    (λ _. choose ArePlain (ltb c 2048) _ _ (λ _. (high _ (omega arith), (high _ (omega arith), tt)))
    (λ _. choose ArePlain (ltb c 65536) _ _ (λ _. (high _ (omega arith), (high _ (omega arith), (high _ (omega arith), tt)))) (λ _. (high _ (omega arith), (high _ (omega arith), (high _ (omega arith), (high _ (omega arith), tt)))))))

either : (P : ℕ → Type 0) (b : Bool) (x y : ℕ) → P x → P y → P (cond b x y)
either P true x y h k = h
either P false x y h k = k

plain-shown : (c : ℕ) → IsPlain c → ArePlain (shown_char c)
plain-shown c h = plain-encode (cond (is_hidden c) 0xFFFD c) (either IsPlain (is_hidden c) 0xFFFD c (high 0xFFFD (omega arith)) h)

unmarked : (c : ℕ) → eqb c 60 ≡ false → eqb c 62 ≡ false → eqb c 34 ≡ false → eqb c 39 ≡ false → is_mark c ≡ false
unmarked c h i j k = rw (h, i, j, k) refl

-- ---- no markup

pub joined : (xs ys : List ℕ) → HasNoMarkup xs → HasNoMarkup ys → HasNoMarkup (xs ++ ys)
joined [] ys h k = k
joined (x ∷ xs) ys h k = (h.0, joined xs ys h.1 k)

not_60 : (b : ℕ) → is_mark b ≡ false → b ≢ 60
not_60 b = grind (arith, nat_tests)

not_62 : (b : ℕ) → is_mark b ≡ false → b ≢ 62
not_62 b = grind (arith, nat_tests)

not_34 : (b : ℕ) → is_mark b ≡ false → b ≢ 34
not_34 b = grind (arith, nat_tests)

not_39 : (b : ℕ) → is_mark b ≡ false → b ≢ 39
not_39 b = grind (arith, nat_tests)

none : (b : ℕ) → is_mark b ≡ false → (b ≢ 60) × (b ≢ 62) × (b ≢ 34) × (b ≢ 39)
none b h = (not_60 b h, not_62 b h, not_34 b h, not_39 b h)

pub plain_no_markup : (bs : List ℕ) → ArePlain bs → HasNoMarkup bs
plain_no_markup [] h = tt
plain_no_markup (b ∷ bs) h = (none b h.0.no_mark, plain_no_markup bs h.1)

char_no_markup : (c : ℕ) → HasNoMarkup (page_char c)
char_no_markup c =
    choose HasNoMarkup (eqb c 38) _ _ (λ _. (none _ refl, (none _ refl, (none _ refl, (none _ refl, (none _ refl, tt))))))
    (λ a. choose HasNoMarkup (eqb c 60) _ _ (λ _. (none _ refl, (none _ refl, (none _ refl, (none _ refl, tt)))))
    (λ h. choose HasNoMarkup (eqb c 62) _ _ (λ _. (none _ refl, (none _ refl, (none _ refl, (none _ refl, tt)))))
    (λ i. choose HasNoMarkup (eqb c 34) _ _ (λ _. (none _ refl, (none _ refl, (none _ refl, (none _ refl, (none _ refl, (none _ refl, tt)))))))
    (λ j. choose HasNoMarkup (eqb c 39) _ _ (λ _. (none _ refl, (none _ refl, (none _ refl, (none _ refl, (none _ refl, tt))))))
    (λ k. plain_no_markup (shown_char c) (plain-shown c (record { no_entity = a; no_mark = unmarked c h i j k })))))))

chars_no_markup : (cs : List ℕ) → HasNoMarkup (flat_map page_char cs)
chars_no_markup [] = tt
chars_no_markup (c ∷ cs) = joined (page_char c) (flat_map page_char cs) (char_no_markup c) (chars_no_markup cs)

pub no_markup : (text : List ℕ) → HasNoMarkup (page_text text)
no_markup text = chars_no_markup (chars text)

-- ---- it is read as the text

pub plain_read : (bs rest text : List ℕ) → ArePlain bs → read_from 0 rest ≡ Some text → read_from 0 (bs ++ rest) ≡ Some (bs ++ text)
plain_read [] rest text h e = e
plain_read (b ∷ bs) rest text h e = rw (h.0.no_entity, h.0.no_mark, plain_read bs rest text h.1 e) refl

-- this stands for the character
abbrev Stands : ℕ → List ℕ → List ℕ → List ℕ → Type 0
Stands c rest text page = read_from 0 (page ++ rest) ≡ Some (shown_char c ++ text)

entity : (c n : ℕ) (rest text page : List ℕ) → Stands n rest text page → eqb c n ≡ true → Stands c rest text page
entity c n rest text page h e = subst (λ (x : ℕ). Stands x rest text page) (sym (same c n e)) h

-- printed ASCII is shown
shown : (c : ℕ) → 32 ≤ c → c < 127 → foreign.is_hidden c ≡ false
shown c h k = printed_shown c (record { from = h; to = k })

amp : (rest text : List ℕ) → read_from 0 rest ≡ Some text → Stands 38 rest text (codes "&amp;")
unfolding encode
amp rest text e = rw (shown 38 (omega arith) (omega arith), e) refl

lt : (rest text : List ℕ) → read_from 0 rest ≡ Some text → Stands 60 rest text (codes "&lt;")
unfolding encode
lt rest text e = rw (shown 60 (omega arith) (omega arith), e) refl

gt : (rest text : List ℕ) → read_from 0 rest ≡ Some text → Stands 62 rest text (codes "&gt;")
unfolding encode
gt rest text e = rw (shown 62 (omega arith) (omega arith), e) refl

quote : (rest text : List ℕ) → read_from 0 rest ≡ Some text → Stands 34 rest text (codes "&quot;")
unfolding encode
quote rest text e = rw (shown 34 (omega arith) (omega arith), e) refl

apostrophe : (rest text : List ℕ) → read_from 0 rest ≡ Some text → Stands 39 rest text (codes "&#39;")
unfolding encode
apostrophe rest text e = rw (shown 39 (omega arith) (omega arith), e) refl

pub char_read : (c : ℕ) (rest text : List ℕ) → read_from 0 rest ≡ Some text → Stands c rest text (page_char c)
char_read c rest text e =
    choose (Stands c rest text) (eqb c 38) _ _ (entity c 38 rest text (codes "&amp;") (amp rest text e))
    (λ a. choose (Stands c rest text) (eqb c 60) _ _ (entity c 60 rest text (codes "&lt;") (lt rest text e))
    (λ h. choose (Stands c rest text) (eqb c 62) _ _ (entity c 62 rest text (codes "&gt;") (gt rest text e))
    (λ i. choose (Stands c rest text) (eqb c 34) _ _ (entity c 34 rest text (codes "&quot;") (quote rest text e))
    (λ j. choose (Stands c rest text) (eqb c 39) _ _ (entity c 39 rest text (codes "&#39;") (apostrophe rest text e))
    (λ k. plain_read (shown_char c) rest text (plain-shown c (record { no_entity = a; no_mark = unmarked c h i j k })) e)))))

chars_read : (cs : List ℕ) → read_from 0 (flat_map page_char cs) ≡ Some (flat_map shown_char cs)
chars_read [] = refl
chars_read (c ∷ cs) = char_read c (flat_map page_char cs) (flat_map shown_char cs) (chars_read cs)

pub reads_back : (text : List ℕ) → read_text (page_text text) ≡ Some (shown_text text)
reads_back text = chars_read (chars text)

-- ---- a text with no hidden character is read as it is

shown_whole : (cs : List ℕ) → AreSeen cs → flat_map shown_char cs ≡ encodes cs
shown_whole [] h = refl
shown_whole (c ∷ cs) h = rw (h.0, shown_whole cs h.1) refl

pub exact : (text : List ℕ) → IsUtf8 text → AreSeen (chars text) → read_text (page_text text) ≡ Some text
exact text u h = reads_back text ∙ ap (λ (t : List ℕ). Some t) (shown_whole (chars text) h ∙ encodes-chars text u)
