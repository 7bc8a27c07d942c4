-- What is put in a URI is read as the text.
use Rattle.std.proofs.Common.{◌≡◌, ℕ, ◌+◌, ◌*◌, ◌/◌, ◌%◌, ◌^◌, ◌<◌, ◌≤◌, ◌⊎◌, inl, inr, List, [], ◌∷◌, ◌++◌, Bool, true, false, cond, eqb, ltb, Some, flat_map, refl, sym, ap, ◌∙◌, subst, append_assoc, arith}
use Rattle.std.proofs.lemmas.Bool.Decides.{nat_tests}
use Rattle.std.proofs.Math.Utf8.{encode, encodes}
use lib.Utf8.{scalar, scalars, scalar_cases}
use Rattle.std.specs.Char.{digit_value}
use Rattle.std.specs.Str.Parse.{digits_value}
use Rattle.std.specs.Fmt.{digits, digit_glyph}
use Rattle.foreign_text.specs.Written.{percent, percents, is_path_char, char_for}
use Rattle.foreign_text.specs.declared.sinks.Sink.TheVariants.{Path}
use Rattle.foreign_text.specs.Read.{Digit, no_digit, first_digit, second_digit, read_percents}
use Rattle.foreign_text.proofs.Bytes.{choose, two, Lacks, lacks-encode, hex_value}

-- one digit
one_digit : (d : ℕ) → d < 16 → digits 16 true d ≡ digit_glyph true (d % 16) ∷ []
unfolding digits
one_digit d h = rw (zero_left d h) refl
  where
    zero_left : (d : ℕ) → d < 16 → eqb (d / 16) 0 ≡ true
    zero_left d h = grind (arith, nat_tests)

glyph_value : (d : ℕ) → d < 16 → digit_value (digit_glyph true (d % 16)) ≡ d
glyph_value d h =
    let whole : digits_value 16 (digits 16 true d) ≡ d = hex_value true d (omega (arith, h)) in
    let one : 0 * 16 + digit_value (digit_glyph true (d % 16)) ≡ d = ap (digits_value 16) (sym (one_digit d h)) ∙ whole in
    omega (arith, one)

-- the bytes before the rest are read so
abbrev Reads : List ℕ → List ℕ → List ℕ → List ℕ → Type 0
Reads bytes rest text page = read_percents no_digit (page ++ rest) ≡ Some (bytes ++ text)

abbrev Rest : List ℕ → List ℕ → Type 0
Rest rest text = read_percents no_digit rest ≡ Some text

percent_read : (b : ℕ) (rest text : List ℕ) → b < 256 → Rest rest text → Reads (b ∷ []) rest text (percent b)
percent_read b rest text h e =
    rw (one_digit (b / 16) (omega (arith, h)), one_digit (b % 16) (omega arith), glyph_value (b / 16) (omega (arith, h)), glyph_value (b % 16) (omega arith), e)
    (ap (λ (x : ℕ). Some (x ∷ text)) (omega arith))

abbrev pub AreBytes : List ℕ → Type 0
AreBytes [] = Unit {0}
AreBytes (b ∷ bs) = (b < 256) × AreBytes bs

percents_read : (bs rest text : List ℕ) → AreBytes bs → Rest rest text → Reads bs rest text (flat_map percent bs)
percents_read [] rest text h e = e
percents_read (b ∷ bs) rest text h e =
    ap (read_percents no_digit) (append_assoc (percent b) (flat_map percent bs) rest)
    ∙ percent_read b (flat_map percent bs ++ rest) (bs ++ text) h.0 (percents_read bs rest text h.1 e)

small : (c : ℕ) → scalar c ≡ true → c < 1114112
small c s = either (scalar_cases c s)
  where
    either : (c < 55296) ⊎ ((57344 ≤ c) × (c < 1114112)) → c < 1114112
    either (inl h) = omega (arith, h)
    either (inr h) = h.1

bytes-encode : (c : ℕ) → c < 1114112 → AreBytes (encode c)
unfolding encode
bytes-encode c l =
    choose AreBytes (ltb c 128) _ _ (λ t. (below c 128 256 t (omega arith), tt))
    (λ _. choose AreBytes (ltb c 2048) _ _ (λ t. let h = below c 2048 2048 t (omega arith) in (omega (arith, h), (omega arith, tt)))
    (λ _. choose AreBytes (ltb c 65536) _ _ (λ t. let h = below c 65536 65536 t (omega arith) in (omega (arith, h), (omega arith, (omega arith, tt)))) (λ _. (omega (arith, l), (omega arith, (omega arith, (omega arith, tt)))))))
  where
    below : (c n m : ℕ) → ltb c n ≡ true → n ≤ m → c < m
    below c n m = grind (arith, nat_tests)

pub scalar_bytes : (c : ℕ) → scalar c ≡ true → AreBytes (encode c)
scalar_bytes c s = bytes-encode c (small c s)

plain : (bs rest text : List ℕ) → Lacks 37 bs → Rest rest text → Reads bs rest text bs
plain [] rest text h e = e
plain (b ∷ bs) rest text h e = rw (h.0, plain bs rest text h.1 e) refl

no_percent : (c : ℕ) → is_path_char c ≡ true → eqb c 37 ≡ false
no_percent c = grind (arith, nat_tests)

path_read : (c : ℕ) (rest text : List ℕ) → scalar c ≡ true → Rest rest text → Reads (encode c) rest text (char_for Path c)
path_read c rest text s e =
    choose (Reads (encode c) rest text) (is_path_char c) _ _ (λ t. plain (encode c) rest text (lacks-encode 37 c (omega arith) (no_percent c t)) e)
    (λ _. percents_read (encode c) rest text (scalar_bytes c s) e)

pub path_chars : (cs : List ℕ) → scalars cs ≡ true → read_percents no_digit (flat_map (char_for Path) cs) ≡ Some (encodes cs)
path_chars [] s = refl
path_chars (c ∷ cs) s = let p = two (scalar c) (scalars cs) s in path_read c (flat_map (char_for Path) cs) (encodes cs) p.0 (path_chars cs p.1)
