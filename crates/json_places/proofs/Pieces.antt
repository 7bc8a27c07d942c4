-- A text as its pieces: white space, marks, words and literals, and what they are read as.
use Rattle.std.proofs.Common.{◌≡◌, ℕ, zero, suc, ◌+◌, ◌<◌, ◌≤◌, Bool, true, false, ◌&&◌, ◌==◌, cond, List, [], ◌∷◌, ◌++◌, length, Option, Some, None, refl, sym, ap, ◌∙◌, subst, arith, append_assoc, length-append}
use Rattle.std.proofs.lemmas.Bool.{false≢true, eqb-true, and_parts}
use Rattle.text_places.specs.declared.Span.{Span}
use Rattle.json.specs.Token as json
use Rattle.json.specs.Token.{Token}
use Rattle.json.specs.Text.{content, plain}
use Rattle.json.specs.Word.{is_operator, is_space, ends_word, word}
use Rattle.json.specs.Lex.{Lexeme, token, comma, colon, Class, quote, backslash, operator, space, other, class, operator_lexeme, string_token, between, in_string, in_word, lex_byte, lex, begins_colon}
use Rattle.json.specs.Align.{is_good}
use Rattle.json_places.proofs.Retext.{IsText}
use Rattle.json_places.proofs.Quoted.{closes, IsText-closes, lex-IsText}
use Rattle.json_places.proofs.Words.{NoQuote, NoText, WordAt, word_at}

-- no lexeme is bad
abbrev pub are_good : List Lexeme → Bool
are_good [] = true
are_good (token t ∷ ls) = is_good t && are_good ls
are_good (comma ∷ ls) = are_good ls
are_good (colon ∷ ls) = are_good ls

abbrev pub Good : List Lexeme → Type 0
Good ls = are_good ls ≡ true

-- the bytes are the word of the token, where a word ends behind them
pub record IsWord (bytes : List ℕ) (read : Token) : Type 0 where
  pub quoteless : NoQuote bytes
  pub long : 0 < length bytes
  pub no_text : NoText read
  pub lexes : (rest : List ℕ) → ends_word rest ≡ true → lex between (bytes ++ rest) ≡ token read ∷ lex between rest

-- white space, a brace, bracket, comma or colon, a word with its token, and a literal with its text
pub data Pieces : Type 0 where
  end : Pieces
  blank : ℕ → Pieces → Pieces
  mark : ℕ → Pieces → Pieces
  named : List ℕ → Token → Pieces → Pieces
  text : List ℕ → List ℕ → Pieces → Pieces

abbrev pub bytes : Pieces → List ℕ
bytes end = []
bytes (blank x ps) = x ∷ bytes ps
bytes (mark x ps) = x ∷ bytes ps
bytes (named w t ps) = w ++ bytes ps
bytes (text l s ps) = l ++ bytes ps

abbrev pub lexemes : Pieces → List Lexeme
lexemes end = []
lexemes (blank x ps) = lexemes ps
lexemes (mark x ps) = operator_lexeme x ∷ lexemes ps
lexemes (named w t ps) = token t ∷ lexemes ps
lexemes (text l s ps) = token (json.string s) ∷ lexemes ps

-- each piece is what it is called
abbrev pub AreRead : Pieces → Type 0
AreRead end = Unit {0}
AreRead (blank x ps) = (class x ≡ space) × AreRead ps
AreRead (mark x ps) = (class x ≡ operator) × AreRead ps
AreRead (named w t ps) = IsWord w t × (ends_word (bytes ps) ≡ true) × AreRead ps
AreRead (text l s ps) = IsText l s × AreRead ps

-- where the texts that are no keys stand
abbrev pub spans : ℕ → Pieces → List Span
spans at end = []
spans at (blank x ps) = spans (at + 1) ps
spans at (mark x ps) = spans (at + 1) ps
spans at (named w t ps) = spans (at + length w) ps
spans at (text l s ps) =
    cond (begins_colon (lexemes ps)) (spans (at + length l) ps) (record { start = at; end = at + length l } ∷ spans (at + length l) ps)

-- ---- the lexemes of the pieces

pub lex-pieces : (ps : Pieces) → AreRead ps → lex between (bytes ps) ≡ lexemes ps
unfolding lex
lex-pieces end h = refl
lex-pieces (blank x ps) h = ap (λ c. lex_byte between c x (bytes ps) (λ m. lex m (bytes ps))) h.0 ∙ lex-pieces ps h.1
lex-pieces (mark x ps) h = ap (λ c. lex_byte between c x (bytes ps) (λ m. lex m (bytes ps))) h.0 ∙ ap (λ l. operator_lexeme x ∷ l) (lex-pieces ps h.1)
lex-pieces (named w t ps) h = h.0.lexes (bytes ps) h.1 ∙ ap (λ l. token t ∷ l) (lex-pieces ps h.2)
lex-pieces (text l s ps) h = lex-IsText l s (bytes ps) h.0 ∙ ap (λ k. token (json.string s) ∷ k) (lex-pieces ps h.1)

-- ---- a text whose lexemes are good has such pieces

pub record Parsed (xs : List ℕ) : Type 0 where
  pub pieces : Pieces
  pub are : AreRead pieces
  pub is : xs ≡ bytes pieces

abbrev pub is_quote : Class → Bool
is_quote quote = true
is_quote backslash = false
is_quote operator = false
is_quote space = false
is_quote other = false

quote_tested : (q b o s : Bool) → is_quote (cond q quote (cond b backslash (cond o operator (cond s space other)))) ≡ q
quote_tested true b o s = refl
quote_tested false true o s = refl
quote_tested false false true s = refl
quote_tested false false false true = refl
quote_tested false false false false = refl

-- a byte is a quote where its class says so
pub quote-class : (x : ℕ) → is_quote (class x) ≡ (x == 34)
quote-class x = quote_tested (x == 34) (x == 92) (is_operator x) (is_space x)

-- what stands behind a good lexeme is good
good_rest : (l : Lexeme) (ls : List Lexeme) → Good (l ∷ ls) → Good ls
good_rest (token t) ls h = (and_parts _ _ h).1
good_rest comma ls h = h
good_rest colon ls h = h

parsed_text : (xs : List ℕ) (k : ℕ) (o : Option (List ℕ)) → content plain xs ≡ o → length xs ≤ k → Good (token (string_token o) ∷ lex in_string xs)
    → ((ys : List ℕ) → length ys ≤ k → Good (lex between ys) → Parsed ys) → Parsed (34 ∷ xs)
parsed_text xs k None e le h ih = absurd (false≢true h)
parsed_text xs k (Some s) e le h ih =
    let c = closes plain xs s e in
    let behind : lex in_string xs ≡ lex between c.behind = ap (lex in_string) c.is ∙ c.lexes c.behind in
    let shorter : length c.behind ≤ k = omega (arith, ap length c.is, length-append c.inner (34 ∷ c.behind)) in
    let p = ih c.behind shorter (sym (ap are_good behind) ∙ h) in
    record {
      pieces = text (34 ∷ (c.inner ++ 34 ∷ [])) s p.pieces;
      are = (IsText-closes xs s c, p.are);
      is = ap (λ l. 34 ∷ l) (c.is ∙ (ap (λ l. c.inner ++ 34 ∷ l) p.is ∙ sym (append_assoc c.inner (34 ∷ []) (bytes p.pieces))));
    }

parsed_from : (t : List ℕ) (k : ℕ) → (w : WordAt t) → length t ≤ suc k → Good (lex between t)
    → ((ys : List ℕ) → length ys ≤ k → Good (lex between ys) → Parsed ys) → Parsed t
parsed_from t k w le h ih =
    let read : lex between t ≡ token w.read ∷ lex between w.behind = ap (lex between) w.is ∙ w.lexes w.behind w.ended in
    let long = w.long in
    let shorter : length w.behind ≤ k = omega (arith, ap length w.is, length-append w.bytes w.behind) in
    let rest : Good (token w.read ∷ lex between w.behind) = sym (ap are_good read) ∙ h in
    let p = ih w.behind shorter (and_parts (is_good w.read) (are_good (lex between w.behind)) rest).1 in
    record {
      pieces = named w.bytes w.read p.pieces;
      are = (record { quoteless = w.quoteless; long = w.long; no_text = w.no_text; lexes = w.lexes }, ap ends_word (sym p.is) ∙ w.ended, p.are);
      is = w.is ∙ ap (λ l. w.bytes ++ l) p.is;
    }

parsed_word : (t : List ℕ) (k : ℕ) (ls : List Lexeme) → lex between t ≡ token (word t) ∷ ls → length t ≤ suc k → Good (lex between t)
    → ((ys : List ℕ) → length ys ≤ k → Good (lex between ys) → Parsed ys) → Parsed t
parsed_word t k ls e le h ih =
    let good : Good (token (word t) ∷ ls) = sym (ap are_good e) ∙ h in
    parsed_from t k (word_at t (and_parts (is_good (word t)) (are_good ls) good).0) le h ih

parsed_byte : (x : ℕ) (xs : List ℕ) (k : ℕ) (c : Class) → class x ≡ c → length xs ≤ k → Good (lex_byte between c x xs (λ m. lex m xs))
    → ((ys : List ℕ) → length ys ≤ k → Good (lex between ys) → Parsed ys) → Parsed (x ∷ xs)
unfolding lex
parsed_byte x xs k quote e le h ih =
    let same : x ≡ 34 = eqb-true x 34 (sym (quote-class x) ∙ ap is_quote e) in
    subst (λ y. Parsed (y ∷ xs)) (sym same) (parsed_text xs k (content plain xs) refl le h ih)
parsed_byte x xs k backslash e le h ih = absurd (false≢true h)
parsed_byte x xs k operator e le h ih =
    let p = ih xs le (good_rest (operator_lexeme x) _ h) in
    record { pieces = mark x p.pieces; are = (e, p.are); is = ap (λ l. x ∷ l) p.is }
parsed_byte x xs k space e le h ih =
    let p = ih xs le h in
    record { pieces = blank x p.pieces; are = (e, p.are); is = ap (λ l. x ∷ l) p.is }
parsed_byte x xs k other e le h ih =
    let read : lex between (x ∷ xs) ≡ token (word (x ∷ xs)) ∷ lex in_word xs = ap (λ c. lex_byte between c x xs (λ m. lex m xs)) e in
    parsed_word (x ∷ xs) k (lex in_word xs) read (omega arith) (ap are_good read ∙ h) ih

parse_within : (k : ℕ) (xs : List ℕ) → length xs ≤ k → Good (lex between xs) → Parsed xs
unfolding lex
parse_within k [] le h = record { pieces = end; are = tt; is = refl }
parse_within zero (x ∷ xs) le h = let no : ⊥ = omega arith in absurd no
parse_within (suc k) (x ∷ xs) le h = parsed_byte x xs k (class x) refl (omega arith) h (parse_within k)

-- the pieces of a text whose lexemes are good
pub parse : (xs : List ℕ) → Good (lex between xs) → Parsed xs
parse xs h = parse_within (length xs) xs (omega arith) h
