-- A text that is read has no bad lexeme.
use Rattle.std.proofs.Common.{◌≡◌, ℕ, zero, suc, Bool, true, false, ◌&&◌, List, [], ◌∷◌, length, Option, Some, None, option_and_then, refl, ap, ◌∙◌}
use Rattle.std.proofs.lemmas.Bool.{false≢true, and_parts}
use Rattle.json.specs.Token as json
use Rattle.json.specs.Token.{Token}
use Rattle.json.specs.Lex.{Lexeme, token, comma, colon, Place, fresh, after_value, after_comma, after_key, begins_colon, may_begin, may_close, if_allowed, place_token, punctuate, lex, between, tokens}
use Rattle.json.specs.Align.{is_good}
use Rattle.json.specs.Json.{Json, Items, Members, item, member, object, array, Parse, parse_map, after_end_array, read_key, items_step, members_step, items, members, value_with, value, if_last}
use Rattle.serde_json.specs.Data.{Data}
use Rattle.serde_json.specs.Read.{read, of_json}
use Rattle.json_places.proofs.Pieces.{Good}

-- no token is bad
abbrev pub are_good_tokens : List Token → Bool
are_good_tokens [] = true
are_good_tokens (t ∷ ts) = is_good t && are_good_tokens ts

abbrev AreGood : List Token → Type 0
AreGood ts = are_good_tokens ts ≡ true

-- ---- a parser that takes good tokens alone

-- where it gives something, the tokens are good if those that it leaves are
abbrev Leaves : {A : Type 0} → List Token → Option (A × List Token) → Type 0
Leaves ts None = Unit {0}
Leaves ts (Some p) = AreGood p.1 → AreGood ts

abbrev Keeps : {A : Type 0} → Parse A → Type 0
Keeps p = (ts : List Token) → Leaves ts (p ts)

leaves_map : {A B : Type 0} (f : A → B) (ts : List Token) (r : Option (A × List Token)) → Leaves ts r → Leaves ts (parse_map f r)
leaves_map f ts None h = tt
leaves_map f ts (Some p) h = h

leaves_then : {A B : Type 0} (ts : List Token) (r : Option (A × List Token)) (f : A × List Token → Option (B × List Token)) → Leaves ts r
    → ((p : A × List Token) → Leaves p.1 (f p)) → Leaves ts (option_and_then f r)
leaves_then ts None f h k = tt
leaves_then {A} {B} ts (Some p) f h k = both (f p) (k p)
  where
    both : (o : Option (B × List Token)) → Leaves p.1 o → Leaves ts o
    both None k = tt
    both (Some q) k = λ g. h (k g)

after_end_good : (ts rest : List Token) → after_end_array ts ≡ Some rest → AreGood rest → AreGood ts
after_end_good [] rest e g = absurd (cc)
after_end_good (json.begin_object ∷ ts) rest e g = absurd (cc)
after_end_good (json.end_object ∷ ts) rest e g = absurd (cc)
after_end_good (json.begin_array ∷ ts) rest e g = absurd (cc)
after_end_good (json.end_array ∷ ts) rest e g = let same : ts ≡ rest = cc in ap are_good_tokens same ∙ g
after_end_good (json.key s ∷ ts) rest e g = absurd (cc)
after_end_good (json.string s ∷ ts) rest e g = absurd (cc)
after_end_good (json.number s ∷ ts) rest e g = absurd (cc)
after_end_good (json.boolean b ∷ ts) rest e g = absurd (cc)
after_end_good (json.null ∷ ts) rest e g = absurd (cc)
after_end_good (json.bad ∷ ts) rest e g = absurd (cc)

items_at : (value : Parse Json) (more : Parse Items) → Keeps value → Keeps more → (ts : List Token) (o : Option (List Token)) → after_end_array ts ≡ o
    → Leaves ts (items_step value more ts o)
items_at value more k m ts None e = leaves_then ts (value ts) (λ p. parse_map (item p.0) (more p.1)) (k ts) (λ p. leaves_map (item p.0) p.1 (more p.1) (m p.1))
items_at value more k m ts (Some rest) e = λ g. after_end_good ts rest e g

items_keep : (value : Parse Json) → Keeps value → (n : ℕ) → Keeps (items value n)
unfolding items
items_keep value k zero ts = tt
items_keep value k (suc n) ts = items_at value (items value n) k (items_keep value k n) ts (after_end_array ts) refl

key_keeps : Keeps read_key
key_keeps [] = tt
key_keeps (json.begin_object ∷ ts) = tt
key_keeps (json.end_object ∷ ts) = λ g. g
key_keeps (json.begin_array ∷ ts) = tt
key_keeps (json.end_array ∷ ts) = tt
key_keeps (json.key s ∷ ts) = λ g. g
key_keeps (json.string s ∷ ts) = tt
key_keeps (json.number s ∷ ts) = tt
key_keeps (json.boolean b ∷ ts) = tt
key_keeps (json.null ∷ ts) = tt
key_keeps (json.bad ∷ ts) = tt

members_at : (value : Parse Json) (more : Parse Members) → Keeps value → Keeps more → (key : Option (List ℕ)) → Keeps (members_step value more key)
members_at value more k m None ts = λ g. g
members_at value more k m (Some name) ts =
    leaves_then ts (value ts) (λ p. parse_map (member name p.0) (more p.1)) (k ts) (λ p. leaves_map (member name p.0) p.1 (more p.1) (m p.1))

members_keep : (value : Parse Json) → Keeps value → (n : ℕ) → Keeps (members value n)
unfolding members
members_keep value k zero ts = tt
members_keep value k (suc n) ts =
    leaves_then ts (read_key ts) (λ p. members_step value (members value n) p.0 p.1) (key_keeps ts) (λ p. members_at value (members value n) k (members_keep value k n) p.0 p.1)

value_at : (a : Parse Items) (o : Parse Members) → Keeps a → Keeps o → Keeps (value_with a o)
value_at a o k m [] = tt
value_at a o k m (json.begin_object ∷ ts) = leaves_map object ts (o ts) (m ts)
value_at a o k m (json.end_object ∷ ts) = tt
value_at a o k m (json.begin_array ∷ ts) = leaves_map array ts (a ts) (k ts)
value_at a o k m (json.end_array ∷ ts) = tt
value_at a o k m (json.key s ∷ ts) = tt
value_at a o k m (json.string s ∷ ts) = λ g. g
value_at a o k m (json.number s ∷ ts) = λ g. g
value_at a o k m (json.boolean b ∷ ts) = λ g. g
value_at a o k m (json.null ∷ ts) = λ g. g
value_at a o k m (json.bad ∷ ts) = tt

value_keeps : (depth : ℕ) → Keeps (value depth)
unfolding value
value_keeps zero = value_at (λ ts. None) (λ ts. None) (λ ts. tt) (λ ts. tt)
value_keeps (suc depth) =
    value_at (λ ts. items (value depth) (length ts) ts) (λ ts. members (value depth) (length ts) ts)
    (λ ts. items_keep (value depth) (value_keeps depth) (length ts) ts) (λ ts. members_keep (value depth) (value_keeps depth) (length ts) ts)

all_taken : (ts : List Token) (d : Data) (r : Option (Json × List Token)) → Leaves ts r
    → option_and_then of_json (option_and_then (λ p. if_last p.0 p.1) r) ≡ Some d → AreGood ts
all_taken ts d None h e = absurd (cc)
all_taken ts d (Some p) h e = last p.1 h e
  where
    last : (rest : List Token) → (AreGood rest → AreGood ts) → option_and_then of_json (if_last p.0 rest) ≡ Some d → AreGood ts
    last [] h e = h refl
    last (t ∷ rest) h e = absurd (cc)

-- ---- the rules for commas and colons keep a bad lexeme

allowed : (b : Bool) (t : Token) (k : Place → List Token) (next : Place) → AreGood (if_allowed b t k next) → AreGood (k next)
allowed true t k next h = (and_parts (is_good t) (are_good_tokens (k next)) h).1
allowed false t k next h = absurd (false≢true h)

placed : (p : Place) (t : Token) (b : Bool) (k : Place → List Token) (ls : List Lexeme) → ((next : Place) → AreGood (k next) → Good ls) → AreGood (place_token p t b k) → Good (token t ∷ ls)
placed p json.begin_object b k ls f h = f fresh (allowed (may_begin p) json.begin_object k fresh h)
placed p json.end_object b k ls f h = f after_value (allowed (may_close p) json.end_object k after_value h)
placed p json.begin_array b k ls f h = f fresh (allowed (may_begin p) json.begin_array k fresh h)
placed p json.end_array b k ls f h = f after_value (allowed (may_close p) json.end_array k after_value h)
placed p (json.key s) b k ls f h = absurd (false≢true h)
placed p (json.string s) true k ls f h = f after_key (allowed (may_begin p) (json.key s) k after_key h)
placed p (json.string s) false k ls f h = f after_value (allowed (may_begin p) (json.string s) k after_value h)
placed p (json.number s) b k ls f h = f after_value (allowed (may_begin p) (json.number s) k after_value h)
placed p (json.boolean v) b k ls f h = f after_value (allowed (may_begin p) (json.boolean v) k after_value h)
placed p json.null b k ls f h = f after_value (allowed (may_begin p) json.null k after_value h)
placed p json.bad b k ls f h = absurd (false≢true h)

good_punctuated : (p : Place) (ls : List Lexeme) → AreGood (punctuate p ls) → Good ls
unfolding punctuate
good_punctuated p [] h = refl
good_punctuated fresh (token t ∷ ls) h = placed fresh t (begins_colon ls) (λ next. punctuate next ls) ls (λ next. good_punctuated next ls) h
good_punctuated after_value (token t ∷ ls) h = placed after_value t (begins_colon ls) (λ next. punctuate next ls) ls (λ next. good_punctuated next ls) h
good_punctuated after_comma (token t ∷ ls) h = placed after_comma t (begins_colon ls) (λ next. punctuate next ls) ls (λ next. good_punctuated next ls) h
good_punctuated after_key (token t ∷ ls) h = placed after_key t (begins_colon ls) (λ next. punctuate next ls) ls (λ next. good_punctuated next ls) h
good_punctuated fresh (comma ∷ ls) h = absurd (false≢true h)
good_punctuated after_value (comma ∷ ls) h = good_punctuated after_comma ls h
good_punctuated after_comma (comma ∷ ls) h = absurd (false≢true h)
good_punctuated after_key (comma ∷ ls) h = absurd (false≢true h)
good_punctuated fresh (colon ∷ ls) h = absurd (false≢true h)
good_punctuated after_value (colon ∷ ls) h = absurd (false≢true h)
good_punctuated after_comma (colon ∷ ls) h = absurd (false≢true h)
good_punctuated after_key (colon ∷ ls) h = good_punctuated fresh ls h

-- a text that is read as a document has no bad lexeme
pub Good-read : (text : List ℕ) (d : Data) → read text ≡ Some d → Good (lex between text)
Good-read text d e = good_punctuated fresh (lex between text) (all_taken (tokens text) d (value 127 (tokens text)) (value_keeps 127 (tokens text)) e)
