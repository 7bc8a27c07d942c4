-- A name in the header of a diff is read as it is.
use Rattle.std.proofs.Common.{◌≡◌, ℕ, ◌+◌, ◌-◌, ◌*◌, ◌/◌, ◌%◌, ◌<◌, ◌≤◌, List, [], ◌∷◌, ◌++◌, Bool, true, false, ◌&&◌, cond, eqb, Some, flat_map, refl, sym, ap, ◌∙◌, subst, append_assoc, arith}
use Rattle.std.proofs.lemmas.Bool.Decides.{nat_tests}
use Rattle.std.specs.List.{list_all, list_any}
use Rattle.std.specs.Str.{IsUtf8}
use lib.Utf8.{scalar, scalars}
use Rattle.std.proofs.Math.Utf8.{encode, encodes}
use Rattle.foreign_text.specs.Names.{is_plain, is_blank, is_octal, letter_for, octal, quoted_byte, quoted, header_name, Quote, between, read_quoted, read_bare, read_header_name, HeaderReadsBack}
use Rattle.foreign_text.proofs.Bytes.{same, two, choose}
use Rattle.foreign_text.proofs.Uris.{AreBytes, scalar_bytes}

-- ---- bytes

bytes-append : (xs ys : List ℕ) → AreBytes xs → AreBytes ys → AreBytes (xs ++ ys)
bytes-append [] ys h k = k
bytes-append (x ∷ xs) ys h k = (h.0, bytes-append xs ys h.1 k)

bytes-encodes : (cs : List ℕ) → scalars cs ≡ true → AreBytes (encodes cs)
bytes-encodes [] s = tt
bytes-encodes (c ∷ cs) s = let p = two (scalar c) (scalars cs) s in bytes-append (encode c) (encodes cs) (scalar_bytes c p.0) (bytes-encodes cs p.1)

text_bytes : (text : List ℕ) → IsUtf8 text → AreBytes text
text_bytes text u = subst AreBytes u.1.1 (bytes-encodes u.0 u.1.0)

-- ---- in quotes

abbrev Rest : List ℕ → List ℕ → Type 0
Rest rest text = read_quoted between rest ≡ Some text

abbrev Stands : ℕ → List ℕ → List ℕ → Type 0
Stands b rest text = read_quoted between (quoted_byte b ++ rest) ≡ Some (b ∷ text)

like : (b n : ℕ) (rest text : List ℕ) → Stands n rest text → eqb b n ≡ true → Stands b rest text
like b n rest text h e = subst (λ (x : ℕ). Stands x rest text) (sym (same b n e)) h

by_test : (P : Type 0) (t : Bool) → (t ≡ true → P) → (t ≡ false → P) → P
by_test P true h k = h refl
by_test P false h k = k refl

octal_digit : (d : ℕ) → d < 8 → is_octal (48 + d) ≡ true
octal_digit d h = grind (arith, nat_tests)

octal_read : (b : ℕ) (rest text : List ℕ) → b < 256 → Rest rest text → read_quoted between (92 ∷ (octal b ++ rest)) ≡ Some (b ∷ text)
octal_read b rest text h e =
    rw (octal_digit (b / 64) (omega (arith, h)), octal_digit (b / 8 % 8) (omega arith), octal_digit (b % 8) (omega arith), e)
    (ap (λ (x : ℕ). Some (x ∷ text)) (omega arith))

plain_read : (b : ℕ) (rest text : List ℕ) → eqb b 34 ≡ false → eqb b 92 ≡ false → Rest rest text → read_quoted between (b ∷ rest) ≡ Some (b ∷ text)
plain_read b rest text h k e = rw (h, k, e) refl

-- a byte with no letter
other_read : (b : ℕ) (rest text : List ℕ) → b < 256 → Rest rest text → letter_for b ≡ 0 → eqb b 34 ≡ false → eqb b 92 ≡ false → Stands b rest text
other_read b rest text h e l i j =
    choose (λ (bs : List ℕ). read_quoted between (bs ++ rest) ≡ Some (b ∷ text)) (is_plain b) (b ∷ []) _ (λ _. plain_read b rest text i j e)
    (λ _. rw l (octal_read b rest text h e))

no_letter : (b : ℕ) → eqb b 7 ≡ false → eqb b 8 ≡ false → eqb b 9 ≡ false → eqb b 10 ≡ false → eqb b 11 ≡ false → eqb b 12 ≡ false → eqb b 13 ≡ false → eqb b 34 ≡ false → eqb b 92 ≡ false → letter_for b ≡ 0
no_letter b h0 h1 h2 h3 h4 h5 h6 h7 h8 = rw (h0, h1, h2, h3, h4, h5, h6, h7, h8) refl

byte_read : (b : ℕ) (rest text : List ℕ) → b < 256 → Rest rest text → Stands b rest text
byte_read b rest text h e =
    by_test (Stands b rest text) (eqb b 7) (like b 7 rest text (rw e refl))
    (λ h0. by_test (Stands b rest text) (eqb b 8) (like b 8 rest text (rw e refl))
    (λ h1. by_test (Stands b rest text) (eqb b 9) (like b 9 rest text (rw e refl))
    (λ h2. by_test (Stands b rest text) (eqb b 10) (like b 10 rest text (rw e refl))
    (λ h3. by_test (Stands b rest text) (eqb b 11) (like b 11 rest text (rw e refl))
    (λ h4. by_test (Stands b rest text) (eqb b 12) (like b 12 rest text (rw e refl))
    (λ h5. by_test (Stands b rest text) (eqb b 13) (like b 13 rest text (rw e refl))
    (λ h6. by_test (Stands b rest text) (eqb b 34) (like b 34 rest text (rw e refl))
    (λ h7. by_test (Stands b rest text) (eqb b 92) (like b 92 rest text (rw e refl))
    (λ h8. other_read b rest text h e (no_letter b h0 h1 h2 h3 h4 h5 h6 h7 h8) h7 h8)))))))))

quoted_read : (bs rest : List ℕ) → AreBytes bs → read_quoted between (flat_map quoted_byte bs ++ 34 ∷ rest) ≡ Some bs
quoted_read [] rest h = refl
quoted_read (b ∷ bs) rest h =
    ap (read_quoted between) (append_assoc (quoted_byte b) (flat_map quoted_byte bs) (34 ∷ rest))
    ∙ byte_read b (flat_map quoted_byte bs ++ 34 ∷ rest) bs h.0 (quoted_read bs rest h.1)

-- ---- as it stands

no_quote : (b : ℕ) → is_plain b ≡ true → eqb b 34 ≡ false
no_quote b = grind (arith, nat_tests)

no_tab : (b : ℕ) → is_plain b ≡ true → eqb b 9 ≡ false
no_tab b = grind (arith, nat_tests)

no_end : (b : ℕ) → is_plain b ≡ true → eqb b 10 ≡ false
no_end b = grind (arith, nat_tests)

bare_read : (bs tail : List ℕ) → list_all is_plain bs ≡ true → read_bare tail ≡ [] → read_bare (bs ++ tail) ≡ bs
bare_read [] tail h e = e
bare_read (b ∷ bs) tail h e =
    let p = two (is_plain b) (list_all is_plain bs) h in rw (no_tab b p.0, no_end b p.0) (ap (λ (t : List ℕ). b ∷ t) (bare_read bs tail p.1 e))

-- what ends the line
abbrev tail_of : Bool → List ℕ → List ℕ
tail_of has_blank rest = cond has_blank (9 ∷ []) [] ++ 10 ∷ rest

tail_bare : (has_blank : Bool) (rest : List ℕ) → read_bare (tail_of has_blank rest) ≡ []
tail_bare true rest = refl
tail_bare false rest = refl

tail_read : (has_blank : Bool) (rest : List ℕ) → read_header_name (tail_of has_blank rest) ≡ Some []
tail_read true rest = refl
tail_read false rest = refl

plain_header : (bs : List ℕ) (has_blank : Bool) (rest : List ℕ) → list_all is_plain bs ≡ true → read_header_name (bs ++ tail_of has_blank rest) ≡ Some bs
plain_header [] has_blank rest h = tail_read has_blank rest
plain_header (b ∷ bs) has_blank rest h =
    let p = two (is_plain b) (list_all is_plain bs) h in
    rw (no_quote b p.0, no_tab b p.0, no_end b p.0)
    (ap (λ (t : List ℕ). Some (b ∷ t)) (bare_read bs (tail_of has_blank rest) p.1 (tail_bare has_blank rest)))

quoted_header : (bs : List ℕ) (has_blank : Bool) (rest : List ℕ) → AreBytes bs → read_header_name (quoted bs ++ tail_of has_blank rest) ≡ Some bs
quoted_header bs has_blank rest h =
    ap (read_quoted between) (append_assoc (flat_map quoted_byte bs) (34 ∷ []) (tail_of has_blank rest)) ∙ quoted_read bs (tail_of has_blank rest) h

-- ---- the whole line

line : (name tab rest : List ℕ) → (name ++ (tab ++ 10 ∷ [])) ++ rest ≡ name ++ (tab ++ 10 ∷ rest)
line name tab rest = simp append_assoc

pub reads_back : (name : List ℕ) → IsUtf8 name → HeaderReadsBack name
reads_back name u rest =
    ap read_header_name (line (cond (list_all is_plain name) name (quoted name)) (cond (list_any is_blank name) (9 ∷ []) []) rest)
    ∙ choose (λ (shown : List ℕ). read_header_name (shown ++ tail_of (list_any is_blank name) rest) ≡ Some name) (list_all is_plain name) name (quoted name)
    (λ t. plain_header name (list_any is_blank name) rest t) (λ _. quoted_header name (list_any is_blank name) rest (text_bytes name u))
