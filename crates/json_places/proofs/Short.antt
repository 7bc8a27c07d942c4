-- A text of a document of JSON is no longer than the document.
use Rattle.std.proofs.Common.{◌≡◌, ℕ, ◌+◌, ◌-◌, ◌≤◌, ◌==◌, ◌&&◌, Bool, true, false, cond, List, [], ◌∷◌, ◌++◌, length, Option, Some, None, arith, ap}
use Rattle.std.proofs.lemmas.List.{length-append, length-take, length-drop}
use Rattle.std.specs.Prelude.{⊤, drop, nat_lt, option_and_then, slice_range}
use Rattle.std.specs.Char.{encode_utf8}
use Rattle.json.specs.Lex.{between, lex}
use Rattle.json.specs.Text.{Within, plain, after_backslash, after_u, after_high, code_unit, content, is_high_surrogate, is_low_surrogate, prepend, short_escape, surrogate_pair}
use Rattle.serde_json.specs.Data.{Data}
use Rattle.json_places.specs.declared.path.Step.{Step}
use Rattle.json_places.specs.Paths.{text_at}
use Rattle.json_places.specs.Places.{IsRead}
use Rattle.json_places.proofs.Changed.{text_at-retext}
use Rattle.json_places.proofs.Good.{Good-read}
use Rattle.json_places.proofs.Lexed.{literal_of_text}

-- ---- the content of a literal is no longer than its bytes

-- what is read, if anything is, has at most so many bytes
abbrev AtMost : ℕ → Option (List ℕ) → Type 0
AtMost n None = ⊤
AtMost n (Some s) = length s ≤ n

both : (n : ℕ) (b : Bool) (x y : Option (List ℕ)) → AtMost n x → AtMost n y → AtMost n (cond b x y)
both n true x y p q = p
both n false x y p q = q

then : (n : ℕ) (f : ℕ → Option (List ℕ)) (o : Option ℕ) → ((u : ℕ) → AtMost n (f u)) → AtMost n (option_and_then f o)
then n f None h = tt
then n f (Some u) h = h u

more : (n m : ℕ) (r : Option (List ℕ)) → AtMost m r → m ≤ n → AtMost n r
more n m None h le = tt
more n m (Some s) h le = omega arith

longer : (n m : ℕ) (a : List ℕ) (r : Option (List ℕ)) → AtMost m r → length a + m ≤ n → AtMost n (prepend a r)
longer n m a None h le = tt
longer n m a (Some s) h le = omega (arith, length-append a s)

-- a character has at most four bytes, and six spell it
length-encode : (u : ℕ) → length (encode_utf8 u) ≤ 4
unfolding encode_utf8
length-encode u = grind arith

content_short : (w : Within) (xs : List ℕ) → AtMost (length xs) (content w xs)
unfolding content
content_short plain [] = tt
content_short plain (x ∷ xs) =
    let n = length (x ∷ xs) in
    both n (x == 34) _ _ (omega arith) (both n (x == 92) _ _ (more n _ _ (content_short after_backslash xs) (omega arith))
    (both n (nat_lt x 32) _ _ tt (longer n _ (x ∷ []) _ (content_short plain xs) (omega arith))))
content_short after_backslash [] = tt
content_short after_backslash (x ∷ xs) =
    let n = length (x ∷ xs) in
    both n (x == 117) _ _ (more n _ _ (content_short after_u xs) (omega arith))
    (then n _ (short_escape x) (λ c. longer n _ (c ∷ []) _ (content_short plain xs) (omega arith)))
content_short after_u [] = tt
content_short after_u (a ∷ []) = tt
content_short after_u (a ∷ b ∷ []) = tt
content_short after_u (a ∷ b ∷ c ∷ []) = tt
content_short after_u (a ∷ b ∷ c ∷ d ∷ xs) =
    let n = length (a ∷ b ∷ c ∷ d ∷ xs) in
    then n _ (code_unit a b c d) (λ u. both n (is_high_surrogate u) _ _ (more n _ _ (content_short (after_high u) xs) (omega arith))
    (both n (is_low_surrogate u) _ _ tt (longer n _ (encode_utf8 u) _ (content_short plain xs) (omega (arith, length-encode u)))))
content_short (after_high h) [] = tt
content_short (after_high h) (s ∷ []) = tt
content_short (after_high h) (s ∷ u ∷ []) = tt
content_short (after_high h) (s ∷ u ∷ a ∷ []) = tt
content_short (after_high h) (s ∷ u ∷ a ∷ b ∷ []) = tt
content_short (after_high h) (s ∷ u ∷ a ∷ b ∷ c ∷ []) = tt
content_short (after_high h) (s ∷ u ∷ a ∷ b ∷ c ∷ d ∷ xs) =
    let n = length (s ∷ u ∷ a ∷ b ∷ c ∷ d ∷ xs) in
    both n ((s == 92) && (u == 117)) _ _ (then n _ (code_unit a b c d) (λ l. both n (is_low_surrogate l) _ _
    (longer n _ (encode_utf8 (surrogate_pair h l)) _ (content_short plain xs) (omega (arith, length-encode (surrogate_pair h l)))) tt)) tt

-- ---- and no longer than the text that the literal stands in

found_short : (n : ℕ) (o : Option (List ℕ)) (s : List ℕ) → AtMost n o → o ≡ Some s → length s ≤ n
found_short n None s h e = absurd (cc)
found_short n (Some t) s h e = let same : t ≡ s = cc in omega (arith, h, ap length same)

-- a part is no longer than the whole
part_short : (text : List ℕ) (from to : ℕ) → length (slice_range text from to) ≤ length text
part_short text from to = omega (arith, length-take (to - from) (drop from text), length-drop from text)

-- The text that a document has at a path is no longer than what the document is read of.
pub text_short : (bytes : List ℕ) (d : Data) (steps : List Step) (text : List ℕ) → IsRead bytes d → text_at steps d ≡ Some text → length text ≤ length bytes
text_short bytes d steps text is at =
    let good = Good-read bytes d is.1 in
    let read = text_at-retext (lex between bytes) d (λ n s. s) is.1 in
    let led = read.2 steps text at in
    let place = literal_of_text bytes led.0 text good led.1 in
    let span = place.0 in
    let inner = place.2.inner in
    let short : length text ≤ length (inner ++ 34 ∷ []) = found_short _ _ text (content_short plain (inner ++ 34 ∷ [])) (place.2.is []) in
    omega (arith, short, part_short bytes span.start span.end, ap length place.2.quoted)
