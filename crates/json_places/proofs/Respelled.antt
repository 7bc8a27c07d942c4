-- The pieces of a text with other literals in them.
use Rattle.std.proofs.Common.{◌≡◌, ℕ, suc, ◌+◌, ◌-◌, Bool, true, false, ◌==◌, cond, List, [], ◌∷◌, ◌++◌, length, take, drop, refl, sym, ap, ap₂, ◌∙◌, arith, append_assoc, length-append, add-one}
use Rattle.std.proofs.Math.Seq.{take-append_seam, drop-append_seam}
use Rattle.std.proofs.lemmas.Bool.{false≢true}
use Rattle.std.specs.Prelude.{slice_range}
use Rattle.text_places.specs.declared.Span.{Span}
use Rattle.json.specs.Token as json
use Rattle.json.specs.Token.{Token}
use Rattle.json.specs.Word.{ends_word}
use Rattle.json.specs.Lex.{Lexeme, token, comma, colon, operator_lexeme, begins_colon}
use Rattle.json_places.proofs.Retext.{Change, retext, texts_of, IsText, respelled}
use Rattle.json_places.proofs.Words.{NoText}
use Rattle.json_places.proofs.Pieces.{Pieces, end, blank, mark, named, text, bytes, lexemes, AreRead, spans}

pub by_bool : (P : Bool → Type 0) (b : Bool) → P true → P false → P b
by_bool P true p q = p
by_bool P false p q = q

-- ---- lexemes that are no text stay

abbrev pub NoTextIn : Lexeme → Type 0
NoTextIn (token t) = NoText t
NoTextIn comma = Unit {0}
NoTextIn colon = Unit {0}

pub no_text_mark : (x : ℕ) → NoTextIn (operator_lexeme x)
no_text_mark x =
    by_bool (λ a. NoTextIn (cond a (token json.begin_object) (cond (x == 125) (token json.end_object) (cond (x == 91) (token json.begin_array) (cond (x == 93) (token json.end_array) (cond (x == 44) comma colon)))))) (x == 123) tt
    (by_bool (λ a. NoTextIn (cond a (token json.end_object) (cond (x == 91) (token json.begin_array) (cond (x == 93) (token json.end_array) (cond (x == 44) comma colon))))) (x == 125) tt
    (by_bool (λ a. NoTextIn (cond a (token json.begin_array) (cond (x == 93) (token json.end_array) (cond (x == 44) comma colon)))) (x == 91) tt
    (by_bool (λ a. NoTextIn (cond a (token json.end_array) (cond (x == 44) comma colon))) (x == 93) tt
    (by_bool (λ a. NoTextIn (cond a comma colon)) (x == 44) tt tt))))

retext_token : (f : Change) (n : ℕ) (t : Token) (ls : List Lexeme) → NoText t → retext f n (token t ∷ ls) ≡ token t ∷ retext f n ls
retext_token f n json.begin_object ls h = refl
retext_token f n json.end_object ls h = refl
retext_token f n json.begin_array ls h = refl
retext_token f n json.end_array ls h = refl
retext_token f n (json.key s) ls h = refl
retext_token f n (json.string s) ls h = absurd h
retext_token f n (json.number s) ls h = refl
retext_token f n (json.boolean b) ls h = refl
retext_token f n json.null ls h = refl
retext_token f n json.bad ls h = refl

retext_lexeme : (f : Change) (n : ℕ) (l : Lexeme) (ls : List Lexeme) → NoTextIn l → retext f n (l ∷ ls) ≡ l ∷ retext f n ls
retext_lexeme f n (token t) ls h = retext_token f n t ls h
retext_lexeme f n comma ls h = refl
retext_lexeme f n colon ls h = refl

pub texts_token : (t : Token) (ls : List Lexeme) → NoText t → texts_of (token t ∷ ls) ≡ texts_of ls
texts_token json.begin_object ls h = refl
texts_token json.end_object ls h = refl
texts_token json.begin_array ls h = refl
texts_token json.end_array ls h = refl
texts_token (json.key s) ls h = refl
texts_token (json.string s) ls h = absurd h
texts_token (json.number s) ls h = refl
texts_token (json.boolean b) ls h = refl
texts_token json.null ls h = refl
texts_token json.bad ls h = refl

pub texts_lexeme : (l : Lexeme) (ls : List Lexeme) → NoTextIn l → texts_of (l ∷ ls) ≡ texts_of ls
texts_lexeme (token t) ls h = texts_token t ls h
texts_lexeme comma ls h = refl
texts_lexeme colon ls h = refl

-- ---- the pieces with other literals

-- the span of a literal of this length
abbrev pub span_at : ℕ → List ℕ → Span
span_at at l = record { start = at; end = at + length l }

abbrev pub changed : (ℕ → Span → List ℕ) → Change → ℕ → ℕ → Pieces → Pieces
changed g f n at end = end
changed g f n at (blank x ps) = blank x (changed g f n (at + 1) ps)
changed g f n at (mark x ps) = mark x (changed g f n (at + 1) ps)
changed g f n at (named w t ps) = named w t (changed g f n (at + length w) ps)
changed g f n at (text l s ps) =
    cond (begins_colon (lexemes ps)) (text l s (changed g f n (at + length l) ps))
    (text (g n (span_at at l)) (f n s) (changed g f (suc n) (at + length l) ps))

-- each literal that is put there is that of its text
abbrev pub Fits : (ℕ → Span → List ℕ) → Change → ℕ → ℕ → Pieces → Type 0
Fits g f n at end = Unit {0}
Fits g f n at (blank x ps) = Fits g f n (at + 1) ps
Fits g f n at (mark x ps) = Fits g f n (at + 1) ps
Fits g f n at (named w t ps) = Fits g f n (at + length w) ps
Fits g f n at (text l s ps) =
    cond (begins_colon (lexemes ps)) (Fits g f n (at + length l) ps) (IsText (g n (span_at at l)) (f n s) × Fits g f (suc n) (at + length l) ps)

-- their lexemes have the texts changed
pub lexemes-changed : (g : ℕ → Span → List ℕ) (f : Change) (n at : ℕ) (ps : Pieces) → AreRead ps → lexemes (changed g f n at ps) ≡ retext f n (lexemes ps)
lexemes-changed g f n at end h = refl
lexemes-changed g f n at (blank x ps) h = lexemes-changed g f n (at + 1) ps h.1
lexemes-changed g f n at (mark x ps) h =
    ap (λ l. operator_lexeme x ∷ l) (lexemes-changed g f n (at + 1) ps h.1) ∙ sym (retext_lexeme f n (operator_lexeme x) (lexemes ps) (no_text_mark x))
lexemes-changed g f n at (named w t ps) h =
    ap (λ l. token t ∷ l) (lexemes-changed g f n (at + length w) ps h.2) ∙ sym (retext_token f n t (lexemes ps) h.0.no_text)
lexemes-changed g f n at (text l s ps) h =
    let ls = lexemes ps in
    by_bool (λ b. lexemes (cond b (text l s (changed g f n (at + length l) ps)) (text (g n (span_at at l)) (f n s) (changed g f (suc n) (at + length l) ps)))
    ≡ cond b (token (json.string s) ∷ retext f n ls) (token (json.string (f n s)) ∷ retext f (suc n) ls)) (begins_colon ls)
    (ap (λ l. token (json.string s) ∷ l) (lexemes-changed g f n (at + length l) ps h.1))
    (ap (λ l. token (json.string (f n s)) ∷ l) (lexemes-changed g f (suc n) (at + length l) ps h.1))

-- a word that ends before the pieces ends before the changed ones
ends-changed : (g : ℕ → Span → List ℕ) (f : Change) (n at : ℕ) (ps : Pieces) → AreRead ps → ends_word (bytes ps) ≡ true → ends_word (bytes (changed g f n at ps)) ≡ true
ends-changed g f n at end h e = e
ends-changed g f n at (blank x ps) h e = e
ends-changed g f n at (mark x ps) h e = e
ends-changed g f n at (named [] t ps) h e = let long = h.0.long in let no : ⊥ = omega arith in absurd no
ends-changed g f n at (named (x ∷ w) t ps) h e = e
ends-changed g f n at (text l s ps) h e = absurd (false≢true (ap (λ k. ends_word (k ++ bytes ps)) (sym h.0.quoted) ∙ e))

-- the changed pieces are read
pub AreRead-changed : (g : ℕ → Span → List ℕ) (f : Change) (n at : ℕ) (ps : Pieces) → AreRead ps → Fits g f n at ps → AreRead (changed g f n at ps)
AreRead-changed g f n at end h k = tt
AreRead-changed g f n at (blank x ps) h k = (h.0, AreRead-changed g f n (at + 1) ps h.1 k)
AreRead-changed g f n at (mark x ps) h k = (h.0, AreRead-changed g f n (at + 1) ps h.1 k)
AreRead-changed g f n at (named w t ps) h k = (h.0, ends-changed g f n (at + length w) ps h.2 h.1, AreRead-changed g f n (at + length w) ps h.2 k)
AreRead-changed g f n at (text l s ps) h k =
    by_bool (λ b. cond b (Fits g f n (at + length l) ps) (IsText (g n (span_at at l)) (f n s) × Fits g f (suc n) (at + length l) ps)
    → AreRead (cond b (text l s (changed g f n (at + length l) ps)) (text (g n (span_at at l)) (f n s) (changed g f (suc n) (at + length l) ps)))) (begins_colon (lexemes ps))
    (λ k. (h.0, AreRead-changed g f n (at + length l) ps h.1 k))
    (λ k. (k.0, AreRead-changed g f (suc n) (at + length l) ps h.1 k.1)) k

-- ---- their bytes are the text spelled anew

one_more : (before mid l rest : List ℕ) → before ++ (mid ++ (l ++ rest)) ≡ before ++ ((mid ++ l) ++ rest)
one_more before mid l rest = ap (λ k. before ++ k) (sym (append_assoc mid l rest))

pub slice_middle : (before mid rest : List ℕ) → slice_range (before ++ (mid ++ rest)) (length before) (length before + length mid) ≡ mid
slice_middle before mid rest =
    let n : length before + length mid - length before ≡ length mid = omega arith in
    ap₂ take n (drop-append_seam before (mid ++ rest)) ∙ take-append_seam mid rest

abbrev pub Spelled : (ℕ → Span → List ℕ) → Change → Pieces → Type 0
Spelled g f ps =
    (n at : ℕ) (whole before mid : List ℕ) → whole ≡ before ++ (mid ++ bytes ps) → at ≡ length before + length mid
    → respelled g n (length before) whole (spans at ps) ≡ mid ++ bytes (changed g f n at ps)

pass_one : (g : ℕ → Span → List ℕ) (f : Change) (l : List ℕ) (ps : Pieces) → Spelled g f ps → (n at next : ℕ) (whole before mid : List ℕ)
    → whole ≡ before ++ (mid ++ (l ++ bytes ps)) → at ≡ length before + length mid → next ≡ at + length l
    → respelled g n (length before) whole (spans next ps) ≡ mid ++ (l ++ bytes (changed g f n next ps))
pass_one g f l ps ih n at next whole before mid e a b =
    let stop : next ≡ length before + length (mid ++ l) = omega (arith, length-append mid l) in
    ih n next whole before (mid ++ l) (e ∙ one_more before mid l (bytes ps)) stop ∙ append_assoc mid l (bytes (changed g f n next ps))

replace_one : (g : ℕ → Span → List ℕ) (f : Change) (l : List ℕ) (ps : Pieces) → Spelled g f ps → (n at : ℕ) (whole before mid : List ℕ)
    → whole ≡ before ++ (mid ++ (l ++ bytes ps)) → at ≡ length before + length mid
    → respelled g n (length before) whole (span_at at l ∷ spans (at + length l) ps) ≡ mid ++ (g n (span_at at l) ++ bytes (changed g f (suc n) (at + length l) ps))
replace_one g f l ps ih n at whole before mid e a =
    let front = (before ++ mid) ++ l in
    let split : whole ≡ front ++ ([] ++ bytes ps) = e ∙ (sym (append_assoc before mid (l ++ bytes ps)) ∙ sym (append_assoc (before ++ mid) l (bytes ps))) in
    let here : slice_range whole (length before) at ≡ mid = ap₂ (λ t k. slice_range t (length before) k) e a ∙ slice_middle before mid (l ++ bytes ps) in
    let long : at + length l ≡ length front = omega (arith, length-append (before ++ mid) l, length-append before mid) in
    let stop : at + length l ≡ length front + 0 = omega arith in
    let rest : respelled g (n + 1) (at + length l) whole (spans (at + length l) ps) ≡ bytes (changed g f (suc n) (at + length l) ps) =
    ap₂ (λ m o. respelled g m o whole (spans (at + length l) ps)) (add-one n) long ∙ ih (suc n) (at + length l) whole front [] split stop in
    ap₂ (λ a b. a ++ (g n (span_at at l) ++ b)) here rest

pub spelled-changed : (g : ℕ → Span → List ℕ) (f : Change) (ps : Pieces) → Spelled g f ps
spelled-changed g f end n at whole before mid e a = ap (drop (length before)) e ∙ drop-append_seam before (mid ++ [])
spelled-changed g f (blank x ps) n at whole before mid e a = pass_one g f (x ∷ []) ps (spelled-changed g f ps) n at (at + 1) whole before mid e a refl
spelled-changed g f (mark x ps) n at whole before mid e a = pass_one g f (x ∷ []) ps (spelled-changed g f ps) n at (at + 1) whole before mid e a refl
spelled-changed g f (named w t ps) n at whole before mid e a = pass_one g f w ps (spelled-changed g f ps) n at (at + length w) whole before mid e a refl
spelled-changed g f (text l s ps) n at whole before mid e a =
    by_bool (λ b. respelled g n (length before) whole (cond b (spans (at + length l) ps) (span_at at l ∷ spans (at + length l) ps))
    ≡ mid ++ bytes (cond b (text l s (changed g f n (at + length l) ps)) (text (g n (span_at at l)) (f n s) (changed g f (suc n) (at + length l) ps)))) (begins_colon (lexemes ps))
    (pass_one g f l ps (spelled-changed g f ps) n at (at + length l) whole before mid e a refl)
    (replace_one g f l ps (spelled-changed g f ps) n at whole before mid e a)
