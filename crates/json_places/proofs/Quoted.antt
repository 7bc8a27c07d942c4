-- A literal ends at the quote that the scan finds, and the lexer goes on behind it.
use Rattle.std.proofs.Common.{◌≡◌, ℕ, ◌+◌, Bool, true, false, cond, ◌&&◌, ◌==◌, nat_lt, List, [], ◌∷◌, ◌++◌, length, take, drop, Option, Some, None, option_and_then, refl, sym, ap, ap₂, ◌∙◌, arith, append_assoc, length-append}
use Rattle.std.proofs.lemmas.Bool.{false≢true, eqb-true, and_parts}
use Rattle.std.proofs.Math.Seq.{take-append_seam, drop-append_seam}
use Rattle.json.specs.Token.{string}
use Rattle.std.specs.Char.{is_digit, encode_utf8}
use Rattle.json.specs.Text.{code_unit, short_escape, is_high_surrogate, is_low_surrogate, surrogate_pair, Within, plain, after_backslash, after_u, after_high, prepend, content}
use Rattle.json.specs.Word.{is_operator, is_space}
use Rattle.json.specs.Lex.{Lexeme, token, string_token, quote, backslash, operator, space, other, Mode, between, in_string, in_escape, lex_byte, lex}
use Rattle.json_places.specs.Literals.{quoted_len}
use Rattle.json_places.proofs.Retext.{IsText}

-- whether the next byte stands behind a backslash
abbrev pub is_escaped : Within → Bool
is_escaped plain = false
is_escaped after_backslash = true
is_escaped after_u = false
is_escaped (after_high h) = false

abbrev pub mode_of : Within → Mode
mode_of plain = in_string
mode_of after_backslash = in_escape
mode_of after_u = in_string
mode_of (after_high h) = in_string

-- the bytes up to the quote that closes the literal, whatever stands behind it
pub record Closes (w : Within) (xs s : List ℕ) : Type 0 where
  pub inner : List ℕ
  pub behind : List ℕ
  pub is : xs ≡ inner ++ 34 ∷ behind
  pub reads : (rest : List ℕ) → content w (inner ++ 34 ∷ rest) ≡ Some s
  pub counts : (rest : List ℕ) → quoted_len (is_escaped w) (inner ++ 34 ∷ rest) ≡ length inner + 1
  pub lexes : (rest : List ℕ) → lex (mode_of w) (inner ++ 34 ∷ rest) ≡ lex between rest

-- the scan and the lexer pass over these bytes
record Passes (w v : Within) (front : List ℕ) : Type 0 where
  counts : (xs : List ℕ) → quoted_len (is_escaped w) (front ++ xs) ≡ length front + quoted_len (is_escaped v) xs
  lexes : (xs : List ℕ) → lex (mode_of w) (front ++ xs) ≡ lex (mode_of v) xs

-- what closes behind such bytes closes with them
extend : (w v : Within) (front xs s t : List ℕ) → Passes w v front → (c : Closes v xs s)
    → ((rest : List ℕ) → content w (front ++ (c.inner ++ 34 ∷ rest)) ≡ Some t) → Closes w (front ++ xs) t
extend w v front xs s t p c reads =
    let moved : (rest : List ℕ) → (front ++ c.inner) ++ 34 ∷ rest ≡ front ++ (c.inner ++ 34 ∷ rest) = λ rest. append_assoc front c.inner (34 ∷ rest) in
    record {
      inner = front ++ c.inner;
      behind = c.behind;
      is = ap (λ l. front ++ l) c.is ∙ sym (moved c.behind);
      reads = λ rest. ap (content w) (moved rest) ∙ reads rest;
      counts = λ rest. ap (quoted_len (is_escaped w)) (moved rest) ∙ p.counts (c.inner ++ 34 ∷ rest)
          ∙ omega (arith, c.counts rest, length-append front c.inner);
      lexes = λ rest. ap (lex (mode_of w)) (moved rest) ∙ p.lexes (c.inner ++ 34 ∷ rest) ∙ c.lexes rest;
    }

-- a byte inside a literal, that is no quote and no backslash
abbrev pub Inside : ℕ → Type 0
Inside x = ((x == 34) ≡ false) × ((x == 92) ≡ false)

passes : (o s : Bool) (x : ℕ) (xs : List ℕ) (k : Mode → List Lexeme) → lex_byte in_string (cond o operator (cond s space other)) x xs k ≡ k in_string
passes true s x xs k = refl
passes false true x xs k = refl
passes false false x xs k = refl

-- the lexer passes over it
pub lex-inside : (x : ℕ) (xs : List ℕ) → Inside x → lex in_string (x ∷ xs) ≡ lex in_string xs
unfolding lex
lex-inside x xs h =
    (λ i. lex_byte in_string (cond (h.0 i) quote (cond (h.1 i) backslash (cond (is_operator x) operator (cond (is_space x) space other)))) x xs (λ n. lex n xs))
    ∙ passes (is_operator x) (is_space x) x xs (λ n. lex n xs)

-- and so does the scan
pub quoted_len-inside : (x : ℕ) (xs : List ℕ) → Inside x → quoted_len false (x ∷ xs) ≡ 1 + quoted_len false xs
quoted_len-inside x xs h = λ i. cond (h.0 i) 1 (1 + quoted_len (h.1 i) xs)

inside : (x : ℕ) → Inside x → Passes plain plain (x ∷ [])
inside x h = record { counts = λ xs. quoted_len-inside x xs h; lexes = λ xs. lex-inside x xs h }

at_backslash : (x : ℕ) → (x == 92) ≡ true → Passes plain after_backslash (x ∷ [])
unfolding lex
at_backslash x b =
    record {
      counts = λ xs. ap (λ y. quoted_len false (y ∷ xs)) (eqb-true x 92 b);
      lexes = λ xs. ap (λ y. lex in_string (y ∷ xs)) (eqb-true x 92 b);
    }

escaped : (x : ℕ) (v : Within) → is_escaped v ≡ false → mode_of v ≡ in_string → Passes after_backslash v (x ∷ [])
unfolding lex
escaped x v e m =
    record {
      counts = λ xs. ap (λ b. 1 + quoted_len b xs) (sym e);
      lexes = λ xs. ap (λ n. lex n xs) (sym m);
    }

not_this : (c x : ℕ) (t : Bool) → (t ≡ true → x ≡ c) → is_digit c 16 ≡ false → is_digit x 16 ≡ true → t ≡ false
not_this c x false e never h = refl
not_this c x true e never h = absurd (false≢true (sym never ∙ ap (λ y. is_digit y 16) (sym (e refl)) ∙ h))

hex_inside : (x : ℕ) → is_digit x 16 ≡ true → Inside x
hex_inside x h = (not_this 34 x (x == 34) (eqb-true x 34) refl h, not_this 92 x (x == 92) (eqb-true x 92) refl h)

some_only : (b : Bool) (v u : ℕ) → cond b (Some v) None ≡ Some u → b ≡ true
some_only true v u h = refl
some_only false v u h = absurd (cc)

-- four hex digits
unit : (a b c d u : ℕ) → code_unit a b c d ≡ Some u → Inside a × Inside b × Inside c × Inside d
unfolding code_unit
unit a b c d u h =
    let p = and_parts (is_digit a 16 && is_digit b 16 && is_digit c 16) (is_digit d 16) (some_only _ _ u h) in
    let q = and_parts (is_digit a 16 && is_digit b 16) (is_digit c 16) p.0 in
    let r = and_parts (is_digit a 16) (is_digit b 16) q.0 in
    (hex_inside a r.0, hex_inside b r.1, hex_inside c q.1, hex_inside d p.1)

lex-unit : (a b c d : ℕ) (xs : List ℕ) → Inside a × Inside b × Inside c × Inside d → lex in_string (a ∷ b ∷ c ∷ d ∷ xs) ≡ lex in_string xs
lex-unit a b c d xs h =
    lex-inside a (b ∷ c ∷ d ∷ xs) h.0 ∙ (lex-inside b (c ∷ d ∷ xs) h.1 ∙ (lex-inside c (d ∷ xs) h.2 ∙ lex-inside d xs h.3))

quoted_len-unit : (a b c d : ℕ) (xs : List ℕ) → Inside a × Inside b × Inside c × Inside d
    → quoted_len false (a ∷ b ∷ c ∷ d ∷ xs) ≡ 4 + quoted_len false xs
quoted_len-unit a b c d xs h =
    omega (arith, quoted_len-inside a (b ∷ c ∷ d ∷ xs) h.0, quoted_len-inside b (c ∷ d ∷ xs) h.1, quoted_len-inside c (d ∷ xs) h.2, quoted_len-inside d xs h.3)

four : (a b c d u : ℕ) (v : Within) → code_unit a b c d ≡ Some u → is_escaped v ≡ false → mode_of v ≡ in_string → Passes after_u v (a ∷ b ∷ c ∷ d ∷ [])
four a b c d u v h e m =
    record {
      counts = λ xs. quoted_len-unit a b c d xs (unit a b c d u h) ∙ ap (λ t. 4 + quoted_len t xs) (sym e);
      lexes = λ xs. lex-unit a b c d xs (unit a b c d u h) ∙ ap (λ n. lex n xs) (sym m);
    }

six : (high s u a b c d l : ℕ) → (s == 92) ≡ true → code_unit a b c d ≡ Some l → Passes (after_high high) plain (s ∷ u ∷ a ∷ b ∷ c ∷ d ∷ [])
unfolding lex
six high s u a b c d l e h =
    let inner = unit a b c d l h in
    record {
      counts = λ xs. ap (λ y. quoted_len false (y ∷ u ∷ a ∷ b ∷ c ∷ d ∷ xs)) (eqb-true s 92 e) ∙ omega (arith, quoted_len-unit a b c d xs inner);
      lexes = λ xs. ap (λ y. lex in_string (y ∷ u ∷ a ∷ b ∷ c ∷ d ∷ xs)) (eqb-true s 92 e) ∙ lex-unit a b c d xs inner;
    }

-- ---- what is read of the text so far tells what stands there

by_test : (b : Bool) (x y : Option (List ℕ)) (s : List ℕ) (P : Type 0) → (b ≡ true → x ≡ Some s → P) → (b ≡ false → y ≡ Some s → P) → cond b x y ≡ Some s → P
by_test true x y s P f g h = f refl h
by_test false x y s P f g h = g refl h

by_front : (a : List ℕ) (o : Option (List ℕ)) (s : List ℕ) (P : List ℕ → Type 0) → ((t : List ℕ) → o ≡ Some t → P (a ++ t)) → prepend a o ≡ Some s → P s
by_front a None s P f h = absurd (cc)
by_front a (Some t) s P f h = let e : a ++ t ≡ s = cc in rw (← e) (f t refl)

by_found : (f : ℕ → Option (List ℕ)) (o : Option ℕ) (s : List ℕ) (P : Type 0) → ((u : ℕ) → o ≡ Some u → f u ≡ Some s → P) → option_and_then f o ≡ Some s → P
by_found f None s P g h = absurd (cc)
by_found f (Some u) s P g h = g u refl h

none : (s : List ℕ) (P : Type 0) → None ≡ Some s → P
none s P h = absurd (cc)

-- what the rules say at each byte
at_quote : (x : ℕ) (xs : List ℕ) → (x == 34) ≡ true → content plain (x ∷ xs) ≡ Some []
unfolding content
at_quote x xs q = ap (λ y. content plain (y ∷ xs)) (eqb-true x 34 q)

at_escape : (x : ℕ) (xs s : List ℕ) → (x == 92) ≡ true → content after_backslash xs ≡ Some s → content plain (x ∷ xs) ≡ Some s
unfolding content
at_escape x xs s b h = ap (λ y. content plain (y ∷ xs)) (eqb-true x 92 b) ∙ h

-- a byte that stands for itself
pub content-inside : (x : ℕ) (xs s : List ℕ) → Inside x → nat_lt x 32 ≡ false → content plain xs ≡ Some s → content plain (x ∷ xs) ≡ Some (x ∷ s)
unfolding content
content-inside x xs s n l h =
    (λ i. cond (n.0 i) (Some []) (cond (n.1 i) (content after_backslash xs) (cond (l i) None (prepend (x ∷ []) (h i)))))

at_u : (x : ℕ) (xs s : List ℕ) → (x == 117) ≡ true → content after_u xs ≡ Some s → content after_backslash (x ∷ xs) ≡ Some s
unfolding content
at_u x xs s u h = ap (λ y. content after_backslash (y ∷ xs)) (eqb-true x 117 u) ∙ h

at_short : (x c : ℕ) (xs s : List ℕ) → (x == 117) ≡ false → short_escape x ≡ Some c → content plain xs ≡ Some s → content after_backslash (x ∷ xs) ≡ Some (c ∷ s)
unfolding content
at_short x c xs s u e h =
    λ i. cond (u i) (content after_u xs) (option_and_then (λ k. prepend (k ∷ []) (h i)) (e i))

at_high : (a b c d u : ℕ) (xs s : List ℕ) → code_unit a b c d ≡ Some u → is_high_surrogate u ≡ true → content (after_high u) xs ≡ Some s
    → content after_u (a ∷ b ∷ c ∷ d ∷ xs) ≡ Some s
unfolding content
at_high a b c d u xs s e high h =
    (λ i. option_and_then (λ k. cond (is_high_surrogate k) (content (after_high k) xs) (cond (is_low_surrogate k) None (prepend (encode_utf8 k) (content plain xs)))) (e i))
    ∙ ((λ i. cond (high i) (content (after_high u) xs) (cond (is_low_surrogate u) None (prepend (encode_utf8 u) (content plain xs)))) ∙ h)

at_unit : (a b c d u : ℕ) (xs s : List ℕ) → code_unit a b c d ≡ Some u → is_high_surrogate u ≡ false → is_low_surrogate u ≡ false → content plain xs ≡ Some s
    → content after_u (a ∷ b ∷ c ∷ d ∷ xs) ≡ Some (encode_utf8 u ++ s)
unfolding content
at_unit a b c d u xs s e high low h =
    (λ i. option_and_then (λ k. cond (is_high_surrogate k) (content (after_high k) xs) (cond (is_low_surrogate k) None (prepend (encode_utf8 k) (content plain xs)))) (e i))
    ∙ (λ i. cond (high i) (content (after_high u) xs) (cond (low i) None (prepend (encode_utf8 u) (h i))))

at_pair : (high s u a b c d l : ℕ) (xs t : List ℕ) → ((s == 92) && (u == 117)) ≡ true → code_unit a b c d ≡ Some l → is_low_surrogate l ≡ true
    → content plain xs ≡ Some t → content (after_high high) (s ∷ u ∷ a ∷ b ∷ c ∷ d ∷ xs) ≡ Some (encode_utf8 (surrogate_pair high l) ++ t)
unfolding content
at_pair high s u a b c d l xs t both e low h =
    (λ i. cond (both i) (option_and_then (λ k. cond (is_low_surrogate k) (prepend (encode_utf8 (surrogate_pair high k)) (content plain xs)) None) (e i)) None)
    ∙ (λ i. cond (low i) (prepend (encode_utf8 (surrogate_pair high l)) (h i)) None)

closed_here : (x : ℕ) (xs : List ℕ) → (x == 34) ≡ true → Closes plain (x ∷ xs) []
unfolding lex
closed_here x xs q =
    record {
      inner = [];
      behind = xs;
      is = ap (λ y. y ∷ xs) (eqb-true x 34 q);
      reads = λ rest. at_quote 34 rest refl;
      counts = λ rest. refl;
      lexes = λ rest. refl;
    }

-- where a text is read, its literal closes
pub closes : (w : Within) (xs s : List ℕ) → content w xs ≡ Some s → Closes w xs s
unfolding content
closes plain [] s h = none s _ h
closes plain (x ∷ xs) s h =
    by_test (x == 34) _ _ s _ (λ q e. let same : [] ≡ s = cc in rw (← same) (closed_here x xs q))
    (λ q. by_test (x == 92) _ _ s _ (λ b e. let c = closes after_backslash xs s e in extend plain after_backslash (x ∷ []) xs s s (at_backslash x b) c (λ rest. at_escape x (c.inner ++ 34 ∷ rest) s b (c.reads rest)))
    (λ b. by_test (nat_lt x 32) _ _ s _ (λ l e. none s _ e)
    (λ l. by_front (x ∷ []) (content plain xs) s (λ t. Closes plain (x ∷ xs) t)
    (λ t e. let c = closes plain xs t e in extend plain plain (x ∷ []) xs t (x ∷ t) (inside x (q, b)) c (λ rest. content-inside x (c.inner ++ 34 ∷ rest) t (q, b) l (c.reads rest)))))) h
closes after_backslash [] s h = none s _ h
closes after_backslash (x ∷ xs) s h =
    by_test (x == 117) _ _ s _ (λ u e. let c = closes after_u xs s e in extend after_backslash after_u (x ∷ []) xs s s (escaped x after_u refl refl) c (λ rest. at_u x (c.inner ++ 34 ∷ rest) s u (c.reads rest)))
    (λ u. by_found _ (short_escape x) s _ (λ k found. by_front (k ∷ []) (content plain xs) s (λ t. Closes after_backslash (x ∷ xs) t)
    (λ t e. let c = closes plain xs t e in extend after_backslash plain (x ∷ []) xs t (k ∷ t) (escaped x plain refl refl) c (λ rest. at_short x k (c.inner ++ 34 ∷ rest) t u found (c.reads rest))))) h
closes after_u [] s h = none s _ h
closes after_u (a ∷ []) s h = none s _ h
closes after_u (a ∷ b ∷ []) s h = none s _ h
closes after_u (a ∷ b ∷ c ∷ []) s h = none s _ h
closes after_u (a ∷ b ∷ c ∷ d ∷ xs) s h =
    by_found _ (code_unit a b c d) s _ (λ u found. by_test (is_high_surrogate u) _ _ s _
    (λ high e. let k = closes (after_high u) xs s e in extend after_u (after_high u) (a ∷ b ∷ c ∷ d ∷ []) xs s s (four a b c d u (after_high u) found refl refl) k (λ rest. at_high a b c d u (k.inner ++ 34 ∷ rest) s found high (k.reads rest)))
    (λ high. by_test (is_low_surrogate u) _ _ s _ (λ low e. none s _ e)
    (λ low. by_front (encode_utf8 u) (content plain xs) s (λ t. Closes after_u (a ∷ b ∷ c ∷ d ∷ xs) t)
    (λ t e. let k = closes plain xs t e in extend after_u plain (a ∷ b ∷ c ∷ d ∷ []) xs t (encode_utf8 u ++ t) (four a b c d u plain found refl refl) k (λ rest. at_unit a b c d u (k.inner ++ 34 ∷ rest) t found high low (k.reads rest)))))) h
closes (after_high h) [] t e = none t _ e
closes (after_high h) (s ∷ []) t e = none t _ e
closes (after_high h) (s ∷ u ∷ []) t e = none t _ e
closes (after_high h) (s ∷ u ∷ a ∷ []) t e = none t _ e
closes (after_high h) (s ∷ u ∷ a ∷ b ∷ []) t e = none t _ e
closes (after_high h) (s ∷ u ∷ a ∷ b ∷ c ∷ []) t e = none t _ e
closes (after_high h) (s ∷ u ∷ a ∷ b ∷ c ∷ d ∷ xs) t e =
    by_test ((s == 92) && (u == 117)) _ _ t _ (λ both. by_found _ (code_unit a b c d) t _ (λ l found. by_test (is_low_surrogate l) _ _ t _
    (λ low. by_front (encode_utf8 (surrogate_pair h l)) (content plain xs) t (λ r. Closes (after_high h) (s ∷ u ∷ a ∷ b ∷ c ∷ d ∷ xs) r)
    (λ r e. let k = closes plain xs r e in extend (after_high h) plain (s ∷ u ∷ a ∷ b ∷ c ∷ d ∷ []) xs r (encode_utf8 (surrogate_pair h l) ++ r) (six h s u a b c d l (and_parts _ _ both).0 found) k
    (λ rest. at_pair h s u a b c d l (k.inner ++ 34 ∷ rest) r both found low (k.reads rest))))
    (λ low e. none t _ e))) (λ both e. none t _ e) e

-- ---- the literal and what it is

-- a text that is read stands in its literal
pub IsText-closes : (xs s : List ℕ) → (c : Closes plain xs s) → IsText (34 ∷ (c.inner ++ 34 ∷ [])) s
IsText-closes xs s c = record { inner = c.inner; quoted = refl; is = c.reads; ends = c.counts }

same_inner : (a b xs ys : List ℕ) → a ++ xs ≡ b ++ ys → length a ≡ length b → (a ≡ b) × (xs ≡ ys)
same_inner a b xs ys e n =
    (sym (take-append_seam a xs) ∙ ap₂ take n e ∙ take-append_seam b ys, sym (drop-append_seam a xs) ∙ ap₂ drop n e ∙ drop-append_seam b ys)

-- the lexer passes over a literal
pub lex-IsText : (literal s rest : List ℕ) → IsText literal s → lex between (literal ++ rest) ≡ token (string s) ∷ lex between rest
unfolding lex
lex-IsText literal s rest t =
    let joined : literal ++ rest ≡ 34 ∷ (t.inner ++ 34 ∷ rest) = ap (λ l. l ++ rest) t.quoted ∙ ap (λ l. 34 ∷ l) (append_assoc t.inner (34 ∷ []) rest) in
    let c = closes plain (t.inner ++ 34 ∷ rest) s (t.is rest) in
    let counted : length c.inner + 1 ≡ length t.inner + 1 = sym (ap (quoted_len false) c.is ∙ c.counts c.behind) ∙ t.ends rest in
    let long : length t.inner ≡ length c.inner = omega arith in
    let same = same_inner t.inner c.inner (34 ∷ rest) (34 ∷ c.behind) c.is long in
    let passed : lex in_string (t.inner ++ 34 ∷ rest) ≡ lex between rest = ap (λ l. lex in_string (l ++ 34 ∷ rest)) same.0 ∙ c.lexes rest in
    ap (lex between) joined ∙ ap₂ (λ o l. token (string_token o) ∷ l) (t.is rest) passed

-- the literal whose first quote stands before a text
pub record LiteralBefore (xs s : List ℕ) : Type 0 where
  pub inner : List ℕ
  pub is : xs ≡ inner ++ 34 ∷ drop (quoted_len false xs) xs
  pub long : length inner + 1 ≡ quoted_len false xs
  pub lexed : lex in_string xs ≡ lex between (drop (quoted_len false xs) xs)
  pub literal : IsText (34 ∷ (inner ++ 34 ∷ [])) s

-- where a text is read behind a quote, the scan and the lexer find the same literal
pub literal_before : (xs s : List ℕ) → content plain xs ≡ Some s → LiteralBefore xs s
literal_before xs s h =
    let c = closes plain xs s h in
    let closed = c.inner ++ 34 ∷ [] in
    let long : quoted_len false xs ≡ length c.inner + 1 = ap (quoted_len false) c.is ∙ c.counts c.behind in
    let whole : xs ≡ closed ++ c.behind = c.is ∙ sym (append_assoc c.inner (34 ∷ []) c.behind) in
    let counted : quoted_len false xs ≡ length closed = long ∙ sym (length-append c.inner (34 ∷ [])) in
    let rest : drop (quoted_len false xs) xs ≡ c.behind = ap₂ drop counted whole ∙ drop-append_seam closed c.behind in
    record {
      inner = c.inner;
      is = c.is ∙ ap (λ l. c.inner ++ 34 ∷ l) (sym rest);
      long = sym long;
      lexed = ap (lex in_string) c.is ∙ c.lexes c.behind ∙ ap (lex between) (sym rest);
      literal = IsText-closes xs s c;
    }
