-- Lexemes and tokens whose texts are others.
use Rattle.std.proofs.Common.{◌≡◌, ℕ, suc, Bool, true, false, cond, List, [], ◌∷◌, length, refl, sym, ap, ◌∙◌}
use Rattle.json.specs.Token as json
use Rattle.json.specs.Token.{Token}
use Rattle.json.specs.Lex.{Lexeme, token, comma, colon, Place, fresh, after_value, after_comma, after_key, begins_colon, may_begin, may_close, if_allowed, place_token, punctuate}
use Rattle.json_places.proofs.Retext.{Change, retext, texts_of}

-- the tokens, with the texts changed, the first of which has this number
abbrev pub retok : Change → ℕ → List Token → List Token
retok f n [] = []
retok f n (json.string s ∷ ts) = json.string (f n s) ∷ retok f (suc n) ts
retok f n (t ∷ ts) = t ∷ retok f n ts

-- the texts changed, the first of which has this number
abbrev pub renumber : Change → ℕ → List (List ℕ) → List (List ℕ)
renumber f n [] = []
renumber f n (s ∷ ss) = f n s ∷ renumber f (suc n) ss

-- there are as many texts as before
pub length-renumber : (f : Change) (n : ℕ) (ss : List (List ℕ)) → length (renumber f n ss) ≡ length ss
length-renumber f n [] = refl
length-renumber f n (s ∷ ss) = ap suc (length-renumber f (suc n) ss)

-- ---- what follows a text, once the texts are others

no_colon_first : (b : Bool) (t u : Token) (ls ms : List Lexeme) → begins_colon (cond b (token t ∷ ls) (token u ∷ ms)) ≡ false
no_colon_first true t u ls ms = refl
no_colon_first false t u ls ms = refl

-- a colon stands first where one stood before
pub begins_colon-retext : (f : Change) (n : ℕ) (ls : List Lexeme) → begins_colon (retext f n ls) ≡ begins_colon ls
begins_colon-retext f n [] = refl
begins_colon-retext f n (token json.begin_object ∷ ls) = refl
begins_colon-retext f n (token json.end_object ∷ ls) = refl
begins_colon-retext f n (token json.begin_array ∷ ls) = refl
begins_colon-retext f n (token json.end_array ∷ ls) = refl
begins_colon-retext f n (token (json.key t) ∷ ls) = refl
begins_colon-retext f n (token (json.number t) ∷ ls) = refl
begins_colon-retext f n (token (json.boolean v) ∷ ls) = refl
begins_colon-retext f n (token json.null ∷ ls) = refl
begins_colon-retext f n (token json.bad ∷ ls) = refl
begins_colon-retext f n (token (json.string s) ∷ ls) = no_colon_first (begins_colon ls) _ _ _ _
begins_colon-retext f n (comma ∷ ls) = refl
begins_colon-retext f n (colon ∷ ls) = refl

-- ---- changed twice, and changed to what they were

module _ (f g : Change) (n : ℕ) (s : List ℕ) (ls : List Lexeme) where
  text_again : (b : Bool) → begins_colon ls ≡ b → retext f n (retext g n ls) ≡ retext (λ k t. f k (g k t)) n ls → retext f (suc n) (retext g (suc n) ls) ≡ retext (λ k t. f k (g k t)) (suc n) ls
      → retext f n (cond b (token (json.string s) ∷ retext g n ls) (token (json.string (g n s)) ∷ retext g (suc n) ls))
      ≡ cond b (token (json.string s) ∷ retext (λ k t. f k (g k t)) n ls) (token (json.string (f n (g n s))) ∷ retext (λ k t. f k (g k t)) (suc n) ls)
  text_again true e here later = rw (begins_colon-retext g n ls, e) (ap (λ x. token (json.string s) ∷ x) here)
  text_again false e here later = rw (begins_colon-retext g (suc n) ls, e) (ap (λ x. token (json.string (f n (g n s))) ∷ x) later)

-- texts that are changed twice are changed once, by both changes
pub retext-retext : (f g : Change) (n : ℕ) (ls : List Lexeme) → retext f n (retext g n ls) ≡ retext (λ k t. f k (g k t)) n ls
retext-retext f g n [] = refl
retext-retext f g n (token json.begin_object ∷ ls) = ap (λ x. token json.begin_object ∷ x) (retext-retext f g n ls)
retext-retext f g n (token json.end_object ∷ ls) = ap (λ x. token json.end_object ∷ x) (retext-retext f g n ls)
retext-retext f g n (token json.begin_array ∷ ls) = ap (λ x. token json.begin_array ∷ x) (retext-retext f g n ls)
retext-retext f g n (token json.end_array ∷ ls) = ap (λ x. token json.end_array ∷ x) (retext-retext f g n ls)
retext-retext f g n (token (json.key t) ∷ ls) = ap (λ x. token (json.key t) ∷ x) (retext-retext f g n ls)
retext-retext f g n (token (json.number t) ∷ ls) = ap (λ x. token (json.number t) ∷ x) (retext-retext f g n ls)
retext-retext f g n (token (json.boolean v) ∷ ls) = ap (λ x. token (json.boolean v) ∷ x) (retext-retext f g n ls)
retext-retext f g n (token json.null ∷ ls) = ap (λ x. token json.null ∷ x) (retext-retext f g n ls)
retext-retext f g n (token json.bad ∷ ls) = ap (λ x. token json.bad ∷ x) (retext-retext f g n ls)
retext-retext f g n (token (json.string s) ∷ ls) = text_again f g n s ls (begins_colon ls) refl (retext-retext f g n ls) (retext-retext f g (suc n) ls)
retext-retext f g n (comma ∷ ls) = ap (λ x. comma ∷ x) (retext-retext f g n ls)
retext-retext f g n (colon ∷ ls) = ap (λ x. colon ∷ x) (retext-retext f g n ls)

either_same : (b : Bool) (l : Lexeme) (xs ys ls : List Lexeme) → xs ≡ ls → ys ≡ ls → cond b (l ∷ xs) (l ∷ ys) ≡ l ∷ ls
either_same true l xs ys ls e f = ap (λ x. l ∷ x) e
either_same false l xs ys ls e f = ap (λ x. l ∷ x) f

-- texts that stay what they are
pub retext-same : (n : ℕ) (ls : List Lexeme) → retext (λ k t. t) n ls ≡ ls
retext-same n [] = refl
retext-same n (token json.begin_object ∷ ls) = ap (λ x. token json.begin_object ∷ x) (retext-same n ls)
retext-same n (token json.end_object ∷ ls) = ap (λ x. token json.end_object ∷ x) (retext-same n ls)
retext-same n (token json.begin_array ∷ ls) = ap (λ x. token json.begin_array ∷ x) (retext-same n ls)
retext-same n (token json.end_array ∷ ls) = ap (λ x. token json.end_array ∷ x) (retext-same n ls)
retext-same n (token (json.key t) ∷ ls) = ap (λ x. token (json.key t) ∷ x) (retext-same n ls)
retext-same n (token (json.number t) ∷ ls) = ap (λ x. token (json.number t) ∷ x) (retext-same n ls)
retext-same n (token (json.boolean v) ∷ ls) = ap (λ x. token (json.boolean v) ∷ x) (retext-same n ls)
retext-same n (token json.null ∷ ls) = ap (λ x. token json.null ∷ x) (retext-same n ls)
retext-same n (token json.bad ∷ ls) = ap (λ x. token json.bad ∷ x) (retext-same n ls)
retext-same n (token (json.string s) ∷ ls) = either_same (begins_colon ls) _ _ _ ls (retext-same n ls) (retext-same (suc n) ls)
retext-same n (comma ∷ ls) = ap (λ x. comma ∷ x) (retext-same n ls)
retext-same n (colon ∷ ls) = ap (λ x. colon ∷ x) (retext-same n ls)

-- ---- the texts, once they are others

module _ (f : Change) (n : ℕ) (s : List ℕ) (ls : List Lexeme) where
  text_of_changed : (b : Bool) → begins_colon ls ≡ b → texts_of (retext f n ls) ≡ renumber f n (texts_of ls) → texts_of (retext f (suc n) ls) ≡ renumber f (suc n) (texts_of ls)
      → texts_of (cond b (token (json.string s) ∷ retext f n ls) (token (json.string (f n s)) ∷ retext f (suc n) ls)) ≡ renumber f n (cond b (texts_of ls) (s ∷ texts_of ls))
  text_of_changed true e here later = rw (begins_colon-retext f n ls, e) here
  text_of_changed false e here later = rw (begins_colon-retext f (suc n) ls, e) (ap (λ x. f n s ∷ x) later)

-- the texts of the changed lexemes are the changed texts
pub texts_of-retext : (f : Change) (n : ℕ) (ls : List Lexeme) → texts_of (retext f n ls) ≡ renumber f n (texts_of ls)
texts_of-retext f n [] = refl
texts_of-retext f n (token json.begin_object ∷ ls) = texts_of-retext f n ls
texts_of-retext f n (token json.end_object ∷ ls) = texts_of-retext f n ls
texts_of-retext f n (token json.begin_array ∷ ls) = texts_of-retext f n ls
texts_of-retext f n (token json.end_array ∷ ls) = texts_of-retext f n ls
texts_of-retext f n (token (json.key t) ∷ ls) = texts_of-retext f n ls
texts_of-retext f n (token (json.number t) ∷ ls) = texts_of-retext f n ls
texts_of-retext f n (token (json.boolean v) ∷ ls) = texts_of-retext f n ls
texts_of-retext f n (token json.null ∷ ls) = texts_of-retext f n ls
texts_of-retext f n (token json.bad ∷ ls) = texts_of-retext f n ls
texts_of-retext f n (token (json.string s) ∷ ls) = text_of_changed f n s ls (begins_colon ls) refl (texts_of-retext f n ls) (texts_of-retext f (suc n) ls)
texts_of-retext f n (comma ∷ ls) = texts_of-retext f n ls
texts_of-retext f n (colon ∷ ls) = texts_of-retext f n ls

-- there are as many texts as before
pub length-texts_of-retext : (f : Change) (n : ℕ) (ls : List Lexeme) → length (texts_of (retext f n ls)) ≡ length (texts_of ls)
length-texts_of-retext f n ls = ap length (texts_of-retext f n ls) ∙ length-renumber f n (texts_of ls)

-- ---- the tokens

module _ (f : Change) (n m : ℕ) (t u : Token) (k k' : Place → List Token) (next : Place) where
  allowed_changed : (b : Bool) → retok f n (t ∷ k next) ≡ u ∷ retok f m (k next) → k' next ≡ retok f m (k next)
      → if_allowed b u k' next ≡ retok f n (if_allowed b t k next)
  allowed_changed true first e = ap (λ x. u ∷ x) e ∙ sym first
  allowed_changed false first e = refl

module _ (f : Change) (n : ℕ) (s : List ℕ) (ls : List Lexeme) where
  string_placed : (p : Place) (b : Bool) → begins_colon ls ≡ b → ((q : Place) → punctuate q (retext f n ls) ≡ retok f n (punctuate q ls)) → ((q : Place) → punctuate q (retext f (suc n) ls) ≡ retok f (suc n) (punctuate q ls))
      → punctuate p (cond b (token (json.string s) ∷ retext f n ls) (token (json.string (f n s)) ∷ retext f (suc n) ls)) ≡ retok f n (place_token p (json.string s) b (λ next. punctuate next ls))
  unfolding punctuate
  string_placed p true e here later = rw (begins_colon-retext f n ls, e) (allowed_changed f n n (json.key s) (json.key s) _ _ after_key (may_begin p) refl (here after_key))
  string_placed p false e here later = rw (begins_colon-retext f (suc n) ls, e) (allowed_changed f n (suc n) (json.string s) (json.string (f n s)) _ _ after_value (may_begin p) refl (later after_value))

-- the tokens of the changed lexemes are the changed tokens
pub punctuate-retext : (f : Change) (n : ℕ) (p : Place) (ls : List Lexeme) → punctuate p (retext f n ls) ≡ retok f n (punctuate p ls)
unfolding punctuate
punctuate-retext f n fresh [] = refl
punctuate-retext f n after_value [] = refl
punctuate-retext f n after_comma [] = refl
punctuate-retext f n after_key [] = refl
punctuate-retext f n p (token json.begin_object ∷ ls) = allowed_changed f n n json.begin_object json.begin_object _ _ fresh (may_begin p) refl (punctuate-retext f n fresh ls)
punctuate-retext f n p (token json.end_object ∷ ls) = allowed_changed f n n json.end_object json.end_object _ _ after_value (may_close p) refl (punctuate-retext f n after_value ls)
punctuate-retext f n p (token json.begin_array ∷ ls) = allowed_changed f n n json.begin_array json.begin_array _ _ fresh (may_begin p) refl (punctuate-retext f n fresh ls)
punctuate-retext f n p (token json.end_array ∷ ls) = allowed_changed f n n json.end_array json.end_array _ _ after_value (may_close p) refl (punctuate-retext f n after_value ls)
punctuate-retext f n p (token (json.key t) ∷ ls) = refl
punctuate-retext f n p (token (json.number t) ∷ ls) = allowed_changed f n n (json.number t) (json.number t) _ _ after_value (may_begin p) refl (punctuate-retext f n after_value ls)
punctuate-retext f n p (token (json.boolean v) ∷ ls) = allowed_changed f n n (json.boolean v) (json.boolean v) _ _ after_value (may_begin p) refl (punctuate-retext f n after_value ls)
punctuate-retext f n p (token json.null ∷ ls) = allowed_changed f n n json.null json.null _ _ after_value (may_begin p) refl (punctuate-retext f n after_value ls)
punctuate-retext f n p (token json.bad ∷ ls) = refl
punctuate-retext f n p (token (json.string s) ∷ ls) = string_placed f n s ls p (begins_colon ls) refl (λ q. punctuate-retext f n q ls) (λ q. punctuate-retext f (suc n) q ls)
punctuate-retext f n fresh (comma ∷ ls) = refl
punctuate-retext f n after_value (comma ∷ ls) = punctuate-retext f n after_comma ls
punctuate-retext f n after_comma (comma ∷ ls) = refl
punctuate-retext f n after_key (comma ∷ ls) = refl
punctuate-retext f n fresh (colon ∷ ls) = refl
punctuate-retext f n after_value (colon ∷ ls) = refl
punctuate-retext f n after_comma (colon ∷ ls) = refl
punctuate-retext f n after_key (colon ∷ ls) = punctuate-retext f n fresh ls
