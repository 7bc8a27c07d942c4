-- A good word is read the same whatever stands behind it, where it ends there, and it has no quote.
use Rattle.std.proofs.Common.{◌≡◌, ℕ, suc, ◌+◌, ◌<◌, Bool, true, false, ◌||◌, ◌==◌, cond, List, [], ◌∷◌, ◌++◌, length, take, drop, Option, Some, None, option_and_then, inl, inr, ◌⊎◌, refl, sym, ap, ap₂, ◌∙◌, arith, append_assoc}
use Rattle.std.proofs.lemmas.Bool.{true≢false, false≢true, eqb-true, leb-true, ne_eqb, and_parts, or_cases}
use Rattle.std.proofs.lemmas.List.{take-append-drop}
use Rattle.std.proofs.lemmas.Slice.Eq.{bytes_eq-Decides}
use Rattle.std.specs.List.{prefix_len}
use Rattle.std.specs.Char.{is_ascii_digit}
use Rattle.json.specs.Token as json
use Rattle.json.specs.Token.{Token}
use Rattle.json.specs.Word.{head, ends_word, after_digits, after_minus, after_sign, after_whole, after_fraction, after_exponent, after_number, number_before, literal, word}
use Rattle.json.specs.Lex.{token, between, lex}
use Rattle.json.specs.Align.{is_good}
use Rattle.json.specs.Print.{IsNumber}
use Rattle.json.proofs.Printed.Numbers.{number_alone, lex-number, in_word-ended}

-- no quote is among the bytes
abbrev pub NoQuote : List ℕ → Type 0
NoQuote [] = Unit {0}
NoQuote (x ∷ xs) = ((x == 34) ≡ false) × NoQuote xs

pub NoQuote-append : (a b : List ℕ) → NoQuote a → NoQuote b → NoQuote (a ++ b)
NoQuote-append [] b p q = q
NoQuote-append (x ∷ a) b p q = (p.0, NoQuote-append a b p.1 q)

-- a token that is no text
abbrev pub NoText : Token → Type 0
NoText json.begin_object = Unit {0}
NoText json.end_object = Unit {0}
NoText json.begin_array = Unit {0}
NoText json.end_array = Unit {0}
NoText (json.key s) = Unit {0}
NoText (json.string s) = ⊥
NoText (json.number s) = Unit {0}
NoText (json.boolean b) = Unit {0}
NoText json.null = Unit {0}
NoText json.bad = Unit {0}

-- ---- what a part of a number passes over

record Runs (t rest : List ℕ) : Type 0 where
  front : List ℕ
  is : t ≡ front ++ rest
  quoteless : NoQuote front

abbrev RunsTo : List ℕ → Option (List ℕ) → Type 0
RunsTo t None = Unit {0}
RunsTo t (Some rest) = Runs t rest

stays : (t : List ℕ) → Runs t t
stays t = record { front = []; is = refl; quoteless = tt }

goes_on : (t u v : List ℕ) → Runs t u → Runs u v → Runs t v
goes_on t u v a b =
    record {
      front = a.front ++ b.front;
      is = a.is ∙ ap (λ l. a.front ++ l) b.is ∙ sym (append_assoc a.front b.front v);
      quoteless = NoQuote-append a.front b.front a.quoteless b.quoteless;
    }

goes_to : (t u : List ℕ) (o : Option (List ℕ)) → Runs t u → RunsTo u o → RunsTo t o
goes_to t u None a b = tt
goes_to t u (Some v) a b = goes_on t u v a b

then : (t : List ℕ) (f : List ℕ → Option (List ℕ)) (o : Option (List ℕ)) → ((u : List ℕ) → RunsTo u (f u)) → RunsTo t o → RunsTo t (option_and_then f o)
then t f None p h = tt
then t f (Some u) p h = goes_to t u (f u) h (p u)

by_test : (t : List ℕ) (b : Bool) (x y : Option (List ℕ)) → (b ≡ true → RunsTo t x) → RunsTo t y → RunsTo t (cond b x y)
by_test t true x y f g = f refl
by_test t false x y f g = g

one : (c : ℕ) (t : List ℕ) → (c == 34) ≡ false → (32 == c) ≡ false → (head t == c) ≡ true → Runs t (drop 1 t)
one c [] q s e = absurd (true≢false (sym e ∙ s))
one c (x ∷ xs) q s e = record { front = x ∷ []; is = refl; quoteless = (ap (λ y. y == 34) (eqb-true x c e) ∙ q, tt) }

either : (a b : ℕ) (t : List ℕ) → (a == 34) ≡ false → (32 == a) ≡ false → (b == 34) ≡ false → (32 == b) ≡ false
    → ((head t == a) ≡ true) ⊎ ((head t == b) ≡ true) → Runs t (drop 1 t)
either a b t p q r s (inl e) = one a t p q e
either a b t p q r s (inr e) = one b t r s e

skipped : (b : Bool) (t : List ℕ) → (b ≡ true → Runs t (drop 1 t)) → Runs t (cond b (drop 1 t) t)
skipped true t f = f refl
skipped false t f = stays t

digit_quoteless : (x : ℕ) → is_ascii_digit x ≡ true → (x == 34) ≡ false
digit_quoteless x h = let large = leb-true 48 x (and_parts _ _ h).0 in ne_eqb x 34 (λ e. omega arith)

digits_at : (d : Bool) (x : ℕ) (xs : List ℕ) (n : ℕ) → (d ≡ true → (x == 34) ≡ false) → Runs xs (drop n xs) → Runs (x ∷ xs) (drop (cond d (1 + n) 0) (x ∷ xs))
digits_at false x xs n q ih = stays (x ∷ xs)
digits_at true x xs n q ih =
    let e : 1 + n ≡ suc n = omega arith in
    rw e (record { front = x ∷ ih.front; is = ap (λ l. x ∷ l) ih.is; quoteless = (q refl, ih.quoteless) })

digit_run : (t : List ℕ) → Runs t (drop (prefix_len is_ascii_digit t) t)
digit_run [] = stays []
digit_run (x ∷ xs) = digits_at (is_ascii_digit x) x xs (prefix_len is_ascii_digit xs) (digit_quoteless x) (digit_run xs)

digits : (t : List ℕ) → RunsTo t (after_digits t)
digits t = by_test t (prefix_len is_ascii_digit t == 0) None (Some (drop (prefix_len is_ascii_digit t) t)) (λ e. tt) (digit_run t)

whole : (t : List ℕ) → RunsTo t (after_whole t)
whole t = by_test t (head t == 48) (Some (drop 1 t)) (after_digits t) (one 48 t refl refl) (digits t)

fraction : (t : List ℕ) → RunsTo t (after_fraction t)
fraction t =
    by_test t (head t == 46) (after_digits (drop 1 t)) (Some t) (λ e. goes_to t (drop 1 t) (after_digits (drop 1 t)) (one 46 t refl refl e) (digits (drop 1 t))) (stays t)

exponent : (t : List ℕ) → RunsTo t (after_exponent t)
exponent t =
    let u = drop 1 t in
    by_test t ((head t == 101) || (head t == 69)) (after_digits (after_sign u)) (Some t)
    (λ e. goes_to t u (after_digits (after_sign u)) (either 101 69 t refl refl refl refl (or_cases _ _ e))
    (goes_to u (after_sign u) (after_digits (after_sign u)) (skipped ((head u == 45) || (head u == 43)) u (λ s. either 45 43 u refl refl refl refl (or_cases _ _ s))) (digits (after_sign u))))
    (stays t)

number_run : (t : List ℕ) → RunsTo t (after_number t)
unfolding after_number
number_run t =
    then t after_exponent _ exponent (then t after_fraction _ fraction
    (goes_to t (after_minus t) (after_whole (after_minus t)) (skipped (head t == 45) t (one 45 t refl refl)) (whole (after_minus t))))

-- ---- words

-- the word at the front of a text, and what it is read as where it ends
pub record WordAt (t : List ℕ) : Type 0 where
  pub bytes : List ℕ
  pub read : Token
  pub behind : List ℕ
  pub is : t ≡ bytes ++ behind
  pub quoteless : NoQuote bytes
  pub long : 0 < length bytes
  pub ended : ends_word behind ≡ true
  pub no_text : NoText read
  pub lexes : (rest : List ℕ) → ends_word rest ≡ true → lex between (bytes ++ rest) ≡ token read ∷ lex between rest

passed : (b : Bool) (k : Token) → is_good (cond b k json.bad) ≡ true → b ≡ true
passed true k h = refl
passed false k h = absurd (false≢true h)

choose : (b : Bool) (x y : Token) (P : Type 0) → (is_good x ≡ true → P) → (is_good y ≡ true → P) → is_good (cond b x y) ≡ true → P
choose true x y P f g = f
choose false x y P f g = g

number_long : (s : List ℕ) → IsNumber s → 0 < length s
unfolding after_number
number_long [] h = absurd (cc)
number_long (x ∷ s) h = omega arith

number_at : (t : List ℕ) (o : Option (List ℕ)) → after_number t ≡ o → RunsTo t o → is_good (number_before t o) ≡ true → WordAt t
number_at t None e r h = absurd (false≢true h)
number_at t (Some rest) e r h =
    let ended = passed (ends_word rest) _ h in
    let is_number = number_alone r.front rest ended (ap after_number (sym r.is) ∙ e) in
    record {
      bytes = r.front;
      read = json.number r.front;
      behind = rest;
      is = r.is;
      quoteless = r.quoteless;
      long = number_long r.front is_number;
      ended = ended;
      no_text = tt;
      lexes = λ behind stops. lex-number r.front behind is_number stops;
    }

literal_at : (name : List ℕ) (k : Token) (t : List ℕ) → NoQuote name → 0 < length name → NoText k
    → ((rest : List ℕ) → ends_word rest ≡ true → lex between (name ++ rest) ≡ token k ∷ lex between rest) → is_good (literal name k t) ≡ true → WordAt t
literal_at name k t quoteless long no_text lexes h =
    let both = and_parts _ _ (passed _ k h) in
    let front : name ≡ take (length name) t = (bytes_eq-Decides name (take (length name) t)).0 both.0 in
    record {
      bytes = name;
      read = k;
      behind = drop (length name) t;
      is = sym (take-append-drop (length name) t) ∙ ap (λ l. l ++ drop (length name) t) (sym front);
      quoteless = quoteless;
      long = long;
      ended = both.1;
      no_text = no_text;
      lexes = lexes;
    }

lex-true : (rest : List ℕ) → ends_word rest ≡ true → lex between (116 ∷ 114 ∷ 117 ∷ 101 ∷ rest) ≡ token (json.boolean true) ∷ lex between rest
unfolding lex word
lex-true rest e = ap₂ (λ b l. token (cond b (json.boolean true) json.bad) ∷ l) e (in_word-ended rest e)

lex-false : (rest : List ℕ) → ends_word rest ≡ true → lex between (102 ∷ 97 ∷ 108 ∷ 115 ∷ 101 ∷ rest) ≡ token (json.boolean false) ∷ lex between rest
unfolding lex word
lex-false rest e = ap₂ (λ b l. token (cond b (json.boolean false) json.bad) ∷ l) e (in_word-ended rest e)

lex-null : (rest : List ℕ) → ends_word rest ≡ true → lex between (110 ∷ 117 ∷ 108 ∷ 108 ∷ rest) ≡ token json.null ∷ lex between rest
unfolding lex word
lex-null rest e = ap₂ (λ b l. token (cond b json.null json.bad) ∷ l) e (in_word-ended rest e)

-- a good word stands at the front of the text
pub word_at : (t : List ℕ) → is_good (word t) ≡ true → WordAt t
unfolding word
word_at t =
    choose (head t == 116) _ _ (WordAt t)
    (literal_at (116 ∷ 114 ∷ 117 ∷ 101 ∷ []) (json.boolean true) t (refl, (refl, (refl, (refl, tt)))) (omega arith) tt lex-true)
    (choose (head t == 102) _ _ (WordAt t)
    (literal_at (102 ∷ 97 ∷ 108 ∷ 115 ∷ 101 ∷ []) (json.boolean false) t (refl, (refl, (refl, (refl, (refl, tt))))) (omega arith) tt lex-false)
    (choose (head t == 110) _ _ (WordAt t)
    (literal_at (110 ∷ 117 ∷ 108 ∷ 108 ∷ []) json.null t (refl, (refl, (refl, (refl, tt)))) (omega arith) tt lex-null)
    (number_at t (after_number t) refl (number_run t))))
