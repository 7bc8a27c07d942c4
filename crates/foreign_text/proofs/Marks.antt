-- What a workflow command says is read as the text.
use Rattle.std.proofs.Common.{◌≡◌, ℕ, ◌<◌, List, [], ◌∷◌, ◌++◌, Bool, true, false, cond, eqb, flat_map, codes, refl, sym, ap, ◌∙◌, subst, arith}
use Rattle.std.proofs.lemmas.Bool.Decides.{nat_tests}
use Rattle.std.proofs.Math.Utf8.{encode}
use lib.Utf8.{scalar, scalars}
use Rattle.std.specs.Char.{digit_value}
use Rattle.std.specs.Fmt.{digits}
use Rattle.foreign_text.specs.Hidden.{is_hidden}
use Rattle.foreign_text.specs.Written.{numbered, visible, visible_in_lines, percent, is_command_mark, is_property_mark, char_for}
use Rattle.foreign_text.specs.declared.sinks.Sink.TheVariants.{Command, Property}
use Rattle.foreign_text.specs.Read.{read_marks}
use Rattle.foreign_text.proofs.Bytes.{choose, same, other, two, Lacks, lacks-append, lacks-encode, lacks-hex, scalar_small, printed_shown}

-- the bytes say what stands in lines for the character
abbrev Says : Bool → ℕ → List ℕ → List ℕ → Type 0
Says p c rest bytes = read_marks p 0 (bytes ++ rest) ≡ visible_in_lines c ++ read_marks p 0 rest

-- bytes without a percent sign are themselves
plain : (p : Bool) (bs rest : List ℕ) → Lacks 37 bs → read_marks p 0 (bs ++ rest) ≡ bs ++ read_marks p 0 rest
plain p [] rest h = refl
plain p (b ∷ bs) rest h = rw h.0 (ap (λ (t : List ℕ). b ∷ t) (plain p bs rest h.1))

lacks_numbered : (c : ℕ) → scalar c ≡ true → Lacks 37 (numbered c)
lacks_numbered c s =
    (refl, (refl, (refl, lacks-append 37 (digits 16 false c) (codes "}") (lacks-hex 37 false c (omega arith) (scalar_small c s)) (refl, tt))))

lacks_visible : (c : ℕ) → scalar c ≡ true → eqb c 37 ≡ false → Lacks 37 (visible c)
lacks_visible c s h =
    choose (Lacks 37) (eqb c 92) _ _ (λ _. (refl, (refl, tt)))
    (λ _. choose (Lacks 37) (is_hidden c) _ _ (λ _. lacks_numbered c s) (λ _. lacks-encode 37 c (omega arith) h))

in_line : (c : ℕ) → eqb c 10 ≡ false → visible_in_lines c ≡ visible c
in_line c h = rw h refl

visible_says : (p : Bool) (c : ℕ) (rest : List ℕ) → scalar c ≡ true → eqb c 37 ≡ false → eqb c 10 ≡ false → Says p c rest (visible c)
visible_says p c rest s h k = plain p (visible c) rest (lacks_visible c s h) ∙ ap (λ (bs : List ℕ). bs ++ read_marks p 0 rest) (sym (in_line c k))

unmarked_percent : (c : ℕ) → is_command_mark c ≡ false → eqb c 37 ≡ false
unmarked_percent c = grind (arith, nat_tests)

unmarked_newline : (c : ℕ) → is_command_mark c ≡ false → eqb c 10 ≡ false
unmarked_newline c = grind (arith, nat_tests)

-- ---- the marks

shown_37 : is_hidden 37 ≡ false
shown_37 = printed_shown 37 (record { from = omega arith; to = omega arith })

shown_58 : is_hidden 58 ≡ false
shown_58 = printed_shown 58 (record { from = omega arith; to = omega arith })

shown_44 : is_hidden 44 ≡ false
shown_44 = printed_shown 44 (record { from = omega arith; to = omega arith })

says_37 : (p : Bool) (rest : List ℕ) → Says p 37 rest (percent 37)
unfolding encode digits
says_37 p rest = rw shown_37 refl

says_10 : (p : Bool) (rest : List ℕ) → Says p 10 rest (percent 10)
unfolding digits
says_10 p rest = refl

says_58 : (rest : List ℕ) → Says true 58 rest (percent 58)
unfolding encode digits
says_58 rest = rw shown_58 refl

says_44 : (rest : List ℕ) → Says true 44 rest (percent 44)
unfolding encode digits
says_44 rest = rw shown_44 refl

by : (p : Bool) (c n : ℕ) (rest : List ℕ) → Says p n rest (percent n) → eqb c n ≡ true → Says p c rest (percent c)
by p c n rest h e = subst (λ (x : ℕ). Says p x rest (percent x)) (sym (same c n e)) h

one_of_two : (c : ℕ) → is_command_mark c ≡ true → eqb c 37 ≡ false → eqb c 10 ≡ true
one_of_two c = grind (arith, nat_tests)

one_of_four : (c : ℕ) → is_property_mark c ≡ true → is_command_mark c ≡ false → eqb c 58 ≡ false → eqb c 44 ≡ true
one_of_four c = grind (arith, nat_tests)

command_mark : (p : Bool) (c : ℕ) (rest : List ℕ) → is_command_mark c ≡ true → (t : Bool) → eqb c 37 ≡ t → Says p c rest (percent c)
command_mark p c rest m true e = by p c 37 rest (says_37 p rest) e
command_mark p c rest m false e = by p c 10 rest (says_10 p rest) (one_of_two c m e)

colon_or_comma : (c : ℕ) (rest : List ℕ) → is_property_mark c ≡ true → is_command_mark c ≡ false → (t : Bool) → eqb c 58 ≡ t → Says true c rest (percent c)
colon_or_comma c rest m n true e = by true c 58 rest (says_58 rest) e
colon_or_comma c rest m n false e = by true c 44 rest (says_44 rest) (one_of_four c m n e)

property_mark : (c : ℕ) (rest : List ℕ) → is_property_mark c ≡ true → (t : Bool) → is_command_mark c ≡ t → Says true c rest (percent c)
property_mark c rest m true e = command_mark true c rest e (eqb c 37) refl
property_mark c rest m false e = colon_or_comma c rest m e (eqb c 58) refl

command_says : (c : ℕ) (rest : List ℕ) → scalar c ≡ true → Says false c rest (char_for Command c)
command_says c rest s =
    choose (Says false c rest) (is_command_mark c) _ _ (λ m. command_mark false c rest m (eqb c 37) refl)
    (λ n. visible_says false c rest s (unmarked_percent c n) (unmarked_newline c n))

no_command_mark : (c : ℕ) → is_property_mark c ≡ false → is_command_mark c ≡ false
no_command_mark c = grind (arith, nat_tests)

property_says : (c : ℕ) (rest : List ℕ) → scalar c ≡ true → Says true c rest (char_for Property c)
property_says c rest s =
    choose (Says true c rest) (is_property_mark c) _ _ (λ m. property_mark c rest m (is_command_mark c) refl)
    (λ n. visible_says true c rest s (unmarked_percent c (no_command_mark c n)) (unmarked_newline c (no_command_mark c n)))

pub command_chars : (cs : List ℕ) → scalars cs ≡ true → read_marks false 0 (flat_map (char_for Command) cs) ≡ flat_map visible_in_lines cs
command_chars [] s = refl
command_chars (c ∷ cs) s =
    let p = two (scalar c) (scalars cs) s in
    command_says c (flat_map (char_for Command) cs) p.0 ∙ ap (λ (t : List ℕ). visible_in_lines c ++ t) (command_chars cs p.1)

pub property_chars : (cs : List ℕ) → scalars cs ≡ true → read_marks true 0 (flat_map (char_for Property) cs) ≡ flat_map visible_in_lines cs
property_chars [] s = refl
property_chars (c ∷ cs) s =
    let p = two (scalar c) (scalars cs) s in
    property_says c (flat_map (char_for Property) cs) p.0 ∙ ap (λ (t : List ℕ). visible_in_lines c ++ t) (property_chars cs p.1)
