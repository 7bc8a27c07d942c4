-- What is put in lines is read as the text.
use Rattle.std.proofs.Common.{◌≡◌, ℕ, ◌+◌, ◌*◌, ◌^◌, ◌<◌, ◌≤◌, List, [], ◌∷◌, ◌++◌, Bool, true, false, cond, eqb, ltb, Some, flat_map, codes, refl, sym, ap, ◌∙◌, subst, append_assoc, arith}
use Rattle.std.proofs.lemmas.Bool.Decides.{nat_tests}
use Rattle.std.proofs.Math.Utf8.{encode, encodes}
use lib.Utf8.{scalar, scalars}
use Rattle.std.specs.Char.{digit_value}
use Rattle.std.specs.Str.Parse.{AllDigits, digits_value_after}
use Rattle.std.specs.Fmt.{digits}
use Rattle.foreign_text.specs.Hidden.{is_hidden}
use Rattle.foreign_text.specs.Written.{numbered, visible, visible_in_lines}
use Rattle.foreign_text.specs.Read.{Place, between, behind_backslash, behind_u, in_number, read_from}
use Rattle.foreign_text.proofs.Bytes.{choose, same, other, two, Lacks, lacks-encode, hex_digits, hex_value, scalar_small}

-- the bytes before the rest are read as those of the character
abbrev pub Stands : ℕ → List ℕ → List ℕ → List ℕ → Type 0
Stands c rest text bytes = read_from between (bytes ++ rest) ≡ Some (encode c ++ text)

-- bytes without a backslash are themselves
pub plain_read : (bs rest text : List ℕ) → Lacks 92 bs → read_from between rest ≡ Some text → read_from between (bs ++ rest) ≡ Some (bs ++ text)
plain_read [] rest text h e = e
plain_read (b ∷ bs) rest text h e = rw (h.0, plain_read bs rest text h.1 e) refl

digit_test : (d : ℕ) → digit_value d < 16 → ltb (digit_value d) 16 ≡ true
digit_test d h = grind (arith, nat_tests)

no_brace : (d : ℕ) → digit_value d < 16 → eqb d 125 ≡ false
no_brace d h = other d 125 (λ e. let l : digit_value 125 < 16 = subst (λ (n : ℕ). digit_value n < 16) e h in omega (arith, l))

number_read : (ds : List ℕ) (n : ℕ) (rest text : List ℕ) → AllDigits 16 ds → read_from between rest ≡ Some text →
    read_from (in_number n) (ds ++ 125 ∷ rest) ≡ Some (encode (digits_value_after 16 n ds) ++ text)
number_read [] n rest text d e = rw e refl
number_read (c ∷ cs) n rest text d e =
    rw (no_brace c d.0, digit_test c d.0) (number_read cs (n * 16 + digit_value c) rest text d.1 e)

numbered_read : (c : ℕ) (rest text : List ℕ) → c < 16 ^ 64 → read_from between rest ≡ Some text → Stands c rest text (numbered c)
numbered_read c rest text l e =
    ap (λ (bs : List ℕ). read_from (in_number 0) bs) (append_assoc (digits 16 false c) (codes "}") rest)
    ∙ number_read (digits 16 false c) 0 rest text (hex_digits false c l) e
    ∙ ap (λ (n : ℕ). Some (encode n ++ text)) (hex_value false c l)

two_backslashes : (rest text : List ℕ) → read_from between rest ≡ Some text → Stands 92 rest text (codes "\\\\")
unfolding encode
two_backslashes rest text e = rw e refl

backslash_read : (c : ℕ) (rest text : List ℕ) → read_from between rest ≡ Some text → eqb c 92 ≡ true → Stands c rest text (codes "\\\\")
backslash_read c rest text e t = subst (λ (x : ℕ). Stands x rest text (codes "\\\\")) (sym (same c 92 t)) (two_backslashes rest text e)

pub visible_read : (c : ℕ) (rest text : List ℕ) → scalar c ≡ true → read_from between rest ≡ Some text → Stands c rest text (visible c)
visible_read c rest text s e =
    choose (Stands c rest text) (eqb c 92) _ _ (backslash_read c rest text e)
    (λ t. choose (Stands c rest text) (is_hidden c) (numbered c) (encode c) (λ _. numbered_read c rest text (scalar_small c s) e)
    (λ _. plain_read (encode c) rest text (lacks-encode 92 c (omega arith) t) e))

a_newline : (rest text : List ℕ) → read_from between rest ≡ Some text → Stands 10 rest text (10 ∷ [])
unfolding encode
a_newline rest text e = rw e refl

newline_read : (c : ℕ) (rest text : List ℕ) → read_from between rest ≡ Some text → eqb c 10 ≡ true → Stands c rest text (10 ∷ [])
newline_read c rest text e t = subst (λ (x : ℕ). Stands x rest text (10 ∷ [])) (sym (same c 10 t)) (a_newline rest text e)

pub in_lines_read : (c : ℕ) (rest text : List ℕ) → scalar c ≡ true → read_from between rest ≡ Some text → Stands c rest text (visible_in_lines c)
in_lines_read c rest text s e =
    choose (Stands c rest text) (eqb c 10) _ _ (newline_read c rest text e) (λ _. visible_read c rest text s e)

pub line_chars : (cs : List ℕ) → scalars cs ≡ true → read_from between (flat_map visible cs) ≡ Some (encodes cs)
line_chars [] s = refl
line_chars (c ∷ cs) s = let p = two (scalar c) (scalars cs) s in visible_read c (flat_map visible cs) (encodes cs) p.0 (line_chars cs p.1)

pub lines_chars : (cs : List ℕ) → scalars cs ≡ true → read_from between (flat_map visible_in_lines cs) ≡ Some (encodes cs)
lines_chars [] s = refl
lines_chars (c ∷ cs) s = let p = two (scalar c) (scalars cs) s in in_lines_read c (flat_map visible_in_lines cs) (encodes cs) p.0 (lines_chars cs p.1)
