-- The scan finds the literals of a text's pieces.
use Rattle.std.proofs.Common.{◌≡◌, ℕ, suc, ◌+◌, ◌-◌, Bool, true, false, ◌==◌, cond, List, [], ◌∷◌, ◌++◌, length, drop, inl, inr, ◌⊎◌, refl, sym, ap, ap₂, ◌∙◌, subst, arith, append_assoc, length-append}
use Rattle.std.proofs.lemmas.Bool.{true≢false, eqb-true, ne_eqb, or_cases}
use Rattle.std.proofs.Math.Seq.{drop-append_seam}
use Rattle.text_places.specs.declared.Span.{Span}
use Rattle.json.specs.Word.{is_operator, is_space}
use Rattle.json.specs.Lex.{Lexeme, Class, quote, backslash, operator, space, other, class, operator_lexeme, Mode, between, lex_byte, lex}
use Rattle.json.specs.Lex as lexed
use Rattle.json_places.specs.Literals.{quoted_len, begins_colon, literals_from}
use Rattle.json_places.proofs.Words.{NoQuote}
use Rattle.json_places.proofs.Pieces.{Pieces, end, blank, mark, named, text, bytes, lexemes, AreRead, spans, lex-pieces, is_quote, quote-class}

-- ---- a colon stands first where it is the first lexeme

or_last : (P : ℕ → Type 0) (x c : ℕ) (b : Bool) → P c → (b ≡ true → P x) → (b ≡ true) ⊎ ((x == c) ≡ true) → P x
or_last P x c b p f (inl e) = f e
or_last P x c b p f (inr e) = subst P (sym (eqb-true x c e)) p

-- each of the six bytes
six : (P : ℕ → Type 0) → P 123 → P 125 → P 91 → P 93 → P 58 → P 44 → (x : ℕ) → is_operator x ≡ true → P x
six P a b c d e f x k =
    or_last P x 44 _ f (λ h. or_last P x 58 _ e (λ i. or_last P x 93 _ d (λ j. or_last P x 91 _ c (λ l. or_last P x 125 _ b (λ m. subst P (sym (eqb-true x 123 m)) a)
    (or_cases _ _ l)) (or_cases _ _ j)) (or_cases _ _ i)) (or_cases _ _ h)) (or_cases _ _ k)

-- what the first byte says, by the tests for its class
first_byte : (q b o s : Bool) (x : ℕ) (xs : List ℕ) (k : Mode → List Lexeme) (c : Bool) → (q ≡ true → (s ≡ false) × (c ≡ false)) → (b ≡ true → (s ≡ false) × (c ≡ false)) → (o ≡ true → (s ≡ false) × (lexed.begins_colon (operator_lexeme x ∷ k between) ≡ c))
    → (o ≡ false → c ≡ false)
    → cond s (lexed.begins_colon (k between)) c ≡ lexed.begins_colon (lex_byte between (cond q quote (cond b backslash (cond o operator (cond s space other)))) x xs k)
first_byte true b o s x xs k c hq hb ho hn = λ i. cond ((hq refl).0 i) (lexed.begins_colon (k between)) ((hq refl).1 i)
first_byte false true o s x xs k c hq hb ho hn = λ i. cond ((hb refl).0 i) (lexed.begins_colon (k between)) ((hb refl).1 i)
first_byte false false true s x xs k c hq hb ho hn = (λ i. cond ((ho refl).0 i) (lexed.begins_colon (k between)) c) ∙ sym (ho refl).1
first_byte false false false true x xs k c hq hb ho hn = refl
first_byte false false false false x xs k c hq hb ho hn = hn refl

-- the scan looks for a colon as the lexer does
pub begins_colon-lex : (xs : List ℕ) → begins_colon xs ≡ lexed.begins_colon (lex between xs)
unfolding lex
begins_colon-lex [] = refl
begins_colon-lex (x ∷ xs) =
    let Is = λ (y : ℕ). (is_space y ≡ false) × ((y == 58) ≡ false) in
    let Says = λ (y : ℕ). (is_space y ≡ false) × (lexed.begins_colon (operator_lexeme y ∷ lex between xs) ≡ (y == 58)) in
    ap (λ b. cond (is_space x) b (x == 58)) (begins_colon-lex xs)
    ∙ first_byte (x == 34) (x == 92) (is_operator x) (is_space x) x xs (λ m. lex m xs) (x == 58)
    (λ e. subst Is (sym (eqb-true x 34 e)) (refl, refl)) (λ e. subst Is (sym (eqb-true x 92 e)) (refl, refl))
    (six Says (refl, refl) (refl, refl) (refl, refl) (refl, refl) (refl, refl) (refl, refl) x)
    (λ h. ne_eqb x 58 (λ e. true≢false (ap is_operator (sym e) ∙ h)))

-- ---- the literals of the pieces

pass_byte : (at x : ℕ) (xs : List ℕ) → (x == 34) ≡ false → literals_from at 0 (x ∷ xs) ≡ literals_from (at + 1) 0 xs
pass_byte at x xs h = λ i. (cond (h i) (cond (begins_colon (drop (quoted_len false xs) xs)) [] (record { start = at; end = at + (1 + quoted_len false xs) } ∷ [])) []) ++ literals_from (at + 1) (cond (h i) (1 + quoted_len false xs) 1 - 1) xs

pass_bytes : (at : ℕ) (w xs : List ℕ) → NoQuote w → literals_from at 0 (w ++ xs) ≡ literals_from (at + length w) 0 xs
pass_bytes at [] xs h = let e : at ≡ at + 0 = omega arith in ap (λ n. literals_from n 0 xs) e
pass_bytes at (x ∷ w) xs h =
    let e : at + 1 + length w ≡ at + suc (length w) = omega arith in
    pass_byte at x (w ++ xs) h.0 ∙ pass_bytes (at + 1) w xs h.1 ∙ ap (λ n. literals_from n 0 xs) e

skip_bytes : (at : ℕ) (w xs : List ℕ) → literals_from at (length w) (w ++ xs) ≡ literals_from (at + length w) 0 xs
skip_bytes at [] xs = let e : at ≡ at + 0 = omega arith in ap (λ n. literals_from n 0 xs) e
skip_bytes at (x ∷ w) xs =
    let e : at + 1 + length w ≡ at + suc (length w) = omega arith in
    skip_bytes (at + 1) w xs ∙ ap (λ n. literals_from n 0 xs) e

other_class : (x : ℕ) (c : Class) → class x ≡ c → is_quote c ≡ false → (x == 34) ≡ false
other_class x c e h = sym (quote-class x) ∙ ap is_quote e ∙ h

-- a literal, and what is found behind it
literal_first : (at : ℕ) (inner xs : List ℕ) → ((rest : List ℕ) → quoted_len false (inner ++ 34 ∷ rest) ≡ length inner + 1)
    → literals_from at 0 (34 ∷ (inner ++ 34 ∷ xs))
    ≡ cond (begins_colon xs) [] (record { start = at; end = at + length (34 ∷ (inner ++ 34 ∷ [])) } ∷ []) ++ literals_from (at + length (34 ∷ (inner ++ 34 ∷ []))) 0 xs
literal_first at inner xs ends =
    let closed = inner ++ 34 ∷ [] in
    let bs = inner ++ 34 ∷ xs in
    let whole : bs ≡ closed ++ xs = sym (append_assoc inner (34 ∷ []) xs) in
    let long : quoted_len false bs ≡ length closed = ends xs ∙ sym (length-append inner (34 ∷ [])) in
    let behind : drop (quoted_len false bs) bs ≡ xs = ap₂ drop long whole ∙ drop-append_seam closed xs in
    let less : (1 + quoted_len false bs) - 1 ≡ length closed = omega arith in
    let stop : at + (1 + quoted_len false bs) ≡ at + suc (length closed) = omega arith in
    let next : at + 1 + length closed ≡ at + suc (length closed) = omega arith in
    (λ i. cond (begins_colon (behind i)) [] (record { start = at; end = stop i } ∷ []) ++ literals_from (at + 1) (less i) (whole i))
    ∙ ap (λ l. cond (begins_colon xs) [] (record { start = at; end = at + suc (length closed) } ∷ []) ++ l)
    (skip_bytes (at + 1) closed xs ∙ ap (λ n. literals_from n 0 xs) next)

joined : (b : Bool) (s : Span) (l : List Span) → cond b [] (s ∷ []) ++ l ≡ cond b l (s ∷ l)
joined true s l = refl
joined false s l = refl

-- the scan of the pieces finds the texts among them that are no keys
pub literals-pieces : (at : ℕ) (ps : Pieces) → AreRead ps → literals_from at 0 (bytes ps) ≡ spans at ps
literals-pieces at end h = refl
literals-pieces at (blank x ps) h = pass_byte at x (bytes ps) (other_class x space h.0 refl) ∙ literals-pieces (at + 1) ps h.1
literals-pieces at (mark x ps) h = pass_byte at x (bytes ps) (other_class x operator h.0 refl) ∙ literals-pieces (at + 1) ps h.1
literals-pieces at (named w t ps) h = pass_bytes at w (bytes ps) h.0.quoteless ∙ literals-pieces (at + length w) ps h.2
literals-pieces at (text l s ps) h =
    let t = h.0 in
    let whole : l ++ bytes ps ≡ 34 ∷ (t.inner ++ 34 ∷ bytes ps) = ap (λ k. k ++ bytes ps) t.quoted ∙ ap (λ k. 34 ∷ k) (append_assoc t.inner (34 ∷ []) (bytes ps)) in
    let key : begins_colon (bytes ps) ≡ lexed.begins_colon (lexemes ps) = begins_colon-lex (bytes ps) ∙ ap lexed.begins_colon (lex-pieces ps h.1) in
    ap (literals_from at 0) whole ∙ literal_first at t.inner (bytes ps) t.ends
    ∙ (λ i. cond (key i) [] (record { start = at; end = at + length (sym t.quoted i) } ∷ []) ++ literals_from (at + length (sym t.quoted i)) 0 (bytes ps))
    ∙ ap (λ k. cond (lexed.begins_colon (lexemes ps)) [] (record { start = at; end = at + length l } ∷ []) ++ k) (literals-pieces (at + length l) ps h.1)
    ∙ joined (lexed.begins_colon (lexemes ps)) _ _
