-- What a text is read as once its literals are spelled anew, and where each of its texts stands.
use Rattle.std.proofs.Common.{◌≡◌, ℕ, zero, suc, ◌+◌, cond, List, [], ◌∷◌, ◌++◌, length, Some, refl, sym, ap, ap₂, ◌∙◌, subst, arith, append_assoc, length-append}
use Rattle.std.specs.Prelude.{slice_get, slice_range}
use Rattle.text_places.specs.declared.Span.{Span}
use Rattle.json.specs.Lex.{operator_lexeme, between, lex, begins_colon}
use Rattle.json_places.specs.Literals.{literals, literals_from}
use Rattle.json_places.proofs.Retext.{Change, retext, texts_of, IsText, respelled}
use Rattle.json_places.proofs.Pieces.{Good, Pieces, end, blank, mark, named, text, bytes, lexemes, AreRead, spans, lex-pieces, Parsed, parse}
use Rattle.json_places.proofs.Scanned.{literals-pieces}
use Rattle.json_places.proofs.Respelled.{by_bool, no_text_mark, texts_token, texts_lexeme, span_at, changed, Fits, lexemes-changed, AreRead-changed, slice_middle, spelled-changed}

-- a whole text, the bytes before some of its pieces, and where these begin
record Stand (whole before : List ℕ) (at : ℕ) (ps : Pieces) : Type 0 where
  is : whole ≡ before ++ bytes ps
  here : at ≡ length before

behind : (whole before l : List ℕ) (at next : ℕ) (ps : Pieces) → whole ≡ before ++ (l ++ bytes ps) → at ≡ length before → next ≡ at + length l → Stand whole (before ++ l) next ps
behind whole before l at next ps e a b =
    record { is = e ∙ sym (append_assoc before l (bytes ps)); here = omega (arith, length-append before l) }

literal_there : (whole before l s : List ℕ) (at : ℕ) (ps : Pieces) → Stand whole before at (text l s ps) → slice_range whole at (at + length l) ≡ l
literal_there whole before l s at ps h =
    ap₂ (λ t k. slice_range t k (k + length l)) h.is h.here ∙ slice_middle before l (bytes ps)

-- each literal with its text is put with its text
abbrev Meets : (ℕ → Span → List ℕ) → Change → List ℕ → ℕ → List Span → Type 0
Meets g f whole n found =
    (k : ℕ) (span : Span) (s : List ℕ) → slice_get found k ≡ Some span → IsText (slice_range whole span.start span.end) s → IsText (g (n + k) span) (f (n + k) s)

fits : (g : ℕ → Span → List ℕ) (f : Change) (n at : ℕ) (whole before : List ℕ) (ps : Pieces) → Stand whole before at ps → AreRead ps
    → Meets g f whole n (spans at ps) → Fits g f n at ps
fits g f n at whole before end h r m = tt
fits g f n at whole before (blank x ps) h r m = fits g f n (at + 1) whole (before ++ x ∷ []) ps (behind whole before (x ∷ []) at (at + 1) ps h.is h.here refl) r.1 m
fits g f n at whole before (mark x ps) h r m = fits g f n (at + 1) whole (before ++ x ∷ []) ps (behind whole before (x ∷ []) at (at + 1) ps h.is h.here refl) r.1 m
fits g f n at whole before (named w t ps) h r m = fits g f n (at + length w) whole (before ++ w) ps (behind whole before w at (at + length w) ps h.is h.here refl) r.2 m
fits g f n at whole before (text l s ps) h r m =
    let next = at + length l in
    let there = behind whole before l at next ps h.is h.here refl in
    by_bool (λ b. Meets g f whole n (cond b (spans next ps) (span_at at l ∷ spans next ps)) → cond b (Fits g f n next ps) (IsText (g n (span_at at l)) (f n s) × Fits g f (suc n) next ps)) (begins_colon (lexemes ps))
    (λ m. fits g f n next whole (before ++ l) ps there r.1 m)
    (λ m.
    (let zeroth : n + 0 ≡ n = omega arith in
    let it = m 0 (span_at at l) s refl (subst (λ k. IsText k s) (sym (literal_there whole before l s at ps h)) r.0) in (
      subst (λ k. IsText (g k (span_at at l)) (f k s)) zeroth it,
      fits g f (suc n) next whole (before ++ l) ps there r.1
          (λ k span t found is. let later : n + suc k ≡ suc n + k = omega arith in subst (λ j. IsText (g j span) (f j t)) later (m (suc k) span t found is)),
    ))) m

found_by : (whole : List ℕ) → (p : Parsed whole) → literals whole ≡ spans 0 p.pieces
found_by whole p = ap (literals_from 0 0) p.is ∙ literals-pieces 0 p.pieces p.are

read_by : (whole : List ℕ) → (p : Parsed whole) → lex between whole ≡ lexemes p.pieces
read_by whole p = ap (lex between) p.is ∙ lex-pieces p.pieces p.are

-- where a text's lexemes are good, those of the text spelled anew are the same but for its texts
pub lex-respelled : (whole : List ℕ) (g : ℕ → Span → List ℕ) (f : Change) → Good (lex between whole)
    → ((n : ℕ) (span : Span) (s : List ℕ) → slice_get (literals whole) n ≡ Some span → IsText (slice_range whole span.start span.end) s → IsText (g n span) (f n s))
    → lex between (respelled g 0 0 whole (literals whole)) ≡ retext f 0 (lex between whole)
lex-respelled whole g f good meets =
    let p = parse whole good in
    let found = found_by whole p in
    let stand : Stand whole [] 0 p.pieces = record { is = p.is; here = refl } in
    let all : Meets g f whole 0 (spans 0 p.pieces) =
    λ k span s at is.
    (let zeroth : 0 + k ≡ k = omega arith in
    subst (λ j. IsText (g j span) (f j s)) (sym zeroth) (meets k span s (ap (λ l. slice_get l k) found ∙ at) is)) in
    let fit = fits g f 0 0 whole [] p.pieces stand p.are all in
    let spelled : respelled g 0 0 whole (literals whole) ≡ bytes (changed g f 0 0 p.pieces) =
    ap (respelled g 0 0 whole) found ∙ spelled-changed g f p.pieces 0 0 whole [] [] p.is refl in
    ap (lex between) spelled ∙ lex-pieces (changed g f 0 0 p.pieces) (AreRead-changed g f 0 0 p.pieces p.are fit)
    ∙ lexemes-changed g f 0 0 p.pieces p.are ∙ ap (retext f 0) (sym (read_by whole p))

-- ---- each text with its place

abbrev TextAt : List ℕ → List (List ℕ) → ℕ → Span → Type 0
TextAt whole texts k span = (s : List ℕ) × IsText (slice_range whole span.start span.end) s × (slice_get texts k ≡ Some s)

abbrev PlaceAt : List ℕ → List Span → ℕ → List ℕ → Type 0
PlaceAt whole found k s = (span : Span) × (slice_get found k ≡ Some span) × IsText (slice_range whole span.start span.end) s

first_text : (whole l s : List ℕ) (at : ℕ) (found : List Span) (texts : List (List ℕ)) → slice_range whole at (at + length l) ≡ l → IsText l s
    → ((k : ℕ) (span : Span) → slice_get found k ≡ Some span → TextAt whole texts k span)
    → (k : ℕ) (span : Span) → slice_get (span_at at l ∷ found) k ≡ Some span → TextAt whole (s ∷ texts) k span
first_text whole l s at found texts e is rest zero span h =
    let same : span_at at l ≡ span = cc in
    subst (λ k. TextAt whole (s ∷ texts) 0 k) same (s, subst (λ k. IsText k s) (sym e) is, refl)
first_text whole l s at found texts e is rest (suc k) span h = rest k span h

first_place : (whole l s : List ℕ) (at : ℕ) (found : List Span) (texts : List (List ℕ)) → slice_range whole at (at + length l) ≡ l → IsText l s
    → ((k : ℕ) (t : List ℕ) → slice_get texts k ≡ Some t → PlaceAt whole found k t)
    → (k : ℕ) (t : List ℕ) → slice_get (s ∷ texts) k ≡ Some t → PlaceAt whole (span_at at l ∷ found) k t
first_place whole l s at found texts e is rest zero t h =
    let same : s ≡ t = cc in
    subst (λ k. PlaceAt whole (span_at at l ∷ found) 0 k) same (span_at at l, refl, subst (λ k. IsText k s) (sym e) is)
first_place whole l s at found texts e is rest (suc k) t h = rest k t h

text_of_pieces : (whole before : List ℕ) (at : ℕ) (ps : Pieces) → Stand whole before at ps → AreRead ps → (k : ℕ) (span : Span) → slice_get (spans at ps) k ≡ Some span
    → TextAt whole (texts_of (lexemes ps)) k span
text_of_pieces whole before at end h r k span e = absurd (cc)
text_of_pieces whole before at (blank x ps) h r k span e =
    text_of_pieces whole (before ++ x ∷ []) (at + 1) ps (behind whole before (x ∷ []) at (at + 1) ps h.is h.here refl) r.1 k span e
text_of_pieces whole before at (mark x ps) h r k span e =
    subst (λ ts. TextAt whole ts k span) (sym (texts_lexeme (operator_lexeme x) (lexemes ps) (no_text_mark x)))
    (text_of_pieces whole (before ++ x ∷ []) (at + 1) ps (behind whole before (x ∷ []) at (at + 1) ps h.is h.here refl) r.1 k span e)
text_of_pieces whole before at (named w t ps) h r k span e =
    subst (λ ts. TextAt whole ts k span) (sym (texts_token t (lexemes ps) r.0.no_text))
    (text_of_pieces whole (before ++ w) (at + length w) ps (behind whole before w at (at + length w) ps h.is h.here refl) r.2 k span e)
text_of_pieces whole before at (text l s ps) h r k span e =
    let next = at + length l in
    let rest = text_of_pieces whole (before ++ l) next ps (behind whole before l at next ps h.is h.here refl) r.1 in
    by_bool (λ b. slice_get (cond b (spans next ps) (span_at at l ∷ spans next ps)) k ≡ Some span → TextAt whole (cond b (texts_of (lexemes ps)) (s ∷ texts_of (lexemes ps))) k span)
    (begins_colon (lexemes ps)) (λ e. rest k span e)
    (λ e. first_text whole l s at (spans next ps) (texts_of (lexemes ps)) (literal_there whole before l s at ps h) r.0 rest k span e) e

place_of_pieces : (whole before : List ℕ) (at : ℕ) (ps : Pieces) → Stand whole before at ps → AreRead ps → (k : ℕ) (t : List ℕ) → slice_get (texts_of (lexemes ps)) k ≡ Some t
    → PlaceAt whole (spans at ps) k t
place_of_pieces whole before at end h r k t e = absurd (cc)
place_of_pieces whole before at (blank x ps) h r k t e =
    place_of_pieces whole (before ++ x ∷ []) (at + 1) ps (behind whole before (x ∷ []) at (at + 1) ps h.is h.here refl) r.1 k t e
place_of_pieces whole before at (mark x ps) h r k t e =
    place_of_pieces whole (before ++ x ∷ []) (at + 1) ps (behind whole before (x ∷ []) at (at + 1) ps h.is h.here refl) r.1 k t
    (ap (λ ts. slice_get ts k) (sym (texts_lexeme (operator_lexeme x) (lexemes ps) (no_text_mark x))) ∙ e)
place_of_pieces whole before at (named w d ps) h r k t e =
    place_of_pieces whole (before ++ w) (at + length w) ps (behind whole before w at (at + length w) ps h.is h.here refl) r.2 k t
    (ap (λ ts. slice_get ts k) (sym (texts_token d (lexemes ps) r.0.no_text)) ∙ e)
place_of_pieces whole before at (text l s ps) h r k t e =
    let next = at + length l in
    let rest = place_of_pieces whole (before ++ l) next ps (behind whole before l at next ps h.is h.here refl) r.1 in
    by_bool (λ b. slice_get (cond b (texts_of (lexemes ps)) (s ∷ texts_of (lexemes ps))) k ≡ Some t → PlaceAt whole (cond b (spans next ps) (span_at at l ∷ spans next ps)) k t)
    (begins_colon (lexemes ps)) (λ e. rest k t e)
    (λ e. first_place whole l s at (spans next ps) (texts_of (lexemes ps)) (literal_there whole before l s at ps h) r.0 rest k t e) e

-- each literal has the text of its number
pub text_of_literal : (whole : List ℕ) (n : ℕ) (span : Span) → Good (lex between whole) → slice_get (literals whole) n ≡ Some span
    → (s : List ℕ) × IsText (slice_range whole span.start span.end) s × (slice_get (texts_of (lex between whole)) n ≡ Some s)
text_of_literal whole n span good e =
    let p = parse whole good in
    subst (λ ls. TextAt whole (texts_of ls) n span) (sym (read_by whole p))
    (text_of_pieces whole [] 0 p.pieces (record { is = p.is; here = refl }) p.are n span (ap (λ l. slice_get l n) (sym (found_by whole p)) ∙ e))

-- and each text its literal
pub literal_of_text : (whole : List ℕ) (n : ℕ) (s : List ℕ) → Good (lex between whole) → slice_get (texts_of (lex between whole)) n ≡ Some s
    → (span : Span) × (slice_get (literals whole) n ≡ Some span) × IsText (slice_range whole span.start span.end) s
literal_of_text whole n s good e =
    let p = parse whole good in
    subst (λ l. PlaceAt whole l n s) (sym (found_by whole p))
    (place_of_pieces whole [] 0 p.pieces (record { is = p.is; here = refl }) p.are n s (ap (λ ls. slice_get (texts_of ls) n) (sym (read_by whole p)) ∙ e))
