-- What the lexemes are read as once their texts are others.
use Rattle.std.proofs.Common.{◌≡◌, ℕ, suc, ◌+◌, ◌<◌, ◌≤◌, ◌==◌, Bool, true, false, cond, ◌⊎◌, inl, inr, if◌then◌else◌, List, [], ◌∷◌, length, Option, Some, None, option_map, option_and_then, slice_get, bytes_eq, refl, sym, ap, ◌∙◌, arith}
use Rattle.std.proofs.lemmas.Bool.{eq-eqb}
use Rattle.std.proofs.lemmas.Bool.Decides.{eqb_tells}
use Rattle.std.proofs.lemmas.Option.{slice_get_within, same_Some}
use Rattle.std.proofs.lemmas.Slice.Eq.{bytes_eq-Decides}
use Rattle.json.specs.Token as json
use Rattle.json.specs.Token.{Token}
use Rattle.json.specs.Lex.{Lexeme, token, comma, colon, Place, fresh, after_value, after_comma, after_key, begins_colon, may_begin, may_close, if_allowed, place_token, punctuate}
use Rattle.json.specs.Json.{Json, if_last, value}
use Rattle.serde_json.specs.Data.{Data}
use Rattle.serde_json.specs.Read.{of_json, max_depth}
use Rattle.json_places.specs.declared.path.Step.{Step}
use Rattle.json_places.specs.Paths.{text_at, set_at}
use Rattle.json_places.proofs.Retext.{Change, retext, texts_of, read_lexemes}
use Rattle.json_places.proofs.Tokens.{renumber, retext-retext, retext-same, texts_of-retext, punctuate-retext}
use Rattle.json_places.proofs.Trees.{one, passing_tokens, rejson, value-retok, value-passing}
use Rattle.json_places.proofs.Leaves.{reword, passing, IsTidy, map_some, and_then_some, of_json-made, of_json-rejson}
use Rattle.json_places.proofs.Led.{text_at-reword, text_at-passing}
use Rattle.json_places.proofs.OneText.{set_at-reword}

-- ---- texts that begin with their numbers

-- each text begins with its number
abbrev pub tag : Change
tag n s = n ∷ s

-- what a text that begins with its number is changed to
abbrev pub by_tag : Change → List ℕ → List ℕ
by_tag f [] = []
by_tag f (n ∷ s) = f n s

-- whether a text begins with the number
abbrev pub has_number : ℕ → List ℕ → Bool
has_number k [] = false
has_number k (n ∷ s) = n == k

-- how many texts pass a test
abbrev pub passing_texts : (List ℕ → Bool) → List (List ℕ) → ℕ
passing_texts q [] = 0
passing_texts q (s ∷ ss) = one (q s) + passing_texts q ss

one_is : (b : Bool) → (b ≡ true) × (one b ≡ 1) ⊎ (b ≡ false) × (one b ≡ 0)
one_is true = inl (refl, refl)
one_is false = inr (refl, refl)

-- no text that is numbered later has the number
none_later : (k n : ℕ) (ss : List (List ℕ)) → k < n → passing_texts (has_number k) (renumber tag n ss) ≡ 0
none_later k n [] less = refl
none_later k n (s ∷ ss) less =
    let told = eqb_tells n k in
    elim told [
      | inl h ↦ absurd (omega (arith, h.1))
      | inr h ↦ rw h.0 (omega (arith, none_later k (suc n) ss (omega arith)))
    ]

-- at most one text has the number
one_has_number : (k n : ℕ) (ss : List (List ℕ)) → passing_texts (has_number k) (renumber tag n ss) ≤ 1
one_has_number k n [] = omega arith
one_has_number k n (s ∷ ss) =
    let told = eqb_tells n k in
    elim told [
      | inl h ↦ rw h.0 (omega (arith, none_later k (suc n) ss (omega (arith, h.1))))
      | inr h ↦ rw h.0 (omega (arith, one_has_number k (suc n) ss))
    ]

-- a numbered text is one of the texts, behind its number
numbered : (t : List ℕ) (n : ℕ) (ss : List (List ℕ)) → 1 ≤ passing_texts (bytes_eq t) (renumber tag n ss) → (i : ℕ) × (s : List ℕ) × (slice_get ss i ≡ Some s) × (t ≡ (n + i) ∷ s)
numbered t n [] some = absurd (omega arith)
numbered t n (s ∷ ss) some =
    elim (one_is (bytes_eq t (n ∷ s))) [
      | inl h ↦
          let this : t ≡ n ∷ s = (bytes_eq-Decides t (n ∷ s)).0 h.0 in
          let k : n ≡ n + 0 = omega arith in
          (0, s, refl, this ∙ ap (λ i. i ∷ s) k)
      | inr h ↦
          let later = numbered t (suc n) ss (omega (arith, h.1)) in
          let k : suc n + later.0 ≡ n + suc later.0 = omega arith in
          (suc later.0, later.1, later.2, later.3 ∙ ap (λ i. i ∷ later.1) k)
    ]

-- ---- each text of the tokens is a text of the lexemes

fewer_allowed : (b : Bool) (q : List ℕ → Bool) (t : Token) (k : Place → List Token) (next : Place) (m : ℕ) → passing_tokens q (t ∷ k next) ≤ m → passing_tokens q (if_allowed b t k next) ≤ m
fewer_allowed true q t k next m few = few
fewer_allowed false q t k next m few = omega arith

fewer_placed : (b : Bool) (q : List ℕ → Bool) (p : Place) (s : List ℕ) (ls : List Lexeme) → ((r : Place) → passing_tokens q (punctuate r ls) ≤ passing_texts q (texts_of ls))
    → passing_tokens q (place_token p (json.string s) b (λ next. punctuate next ls)) ≤ passing_texts q (cond b (texts_of ls) (s ∷ texts_of ls))
fewer_placed true q p s ls few = fewer_allowed (may_begin p) q (json.key s) (λ next. punctuate next ls) after_key _ (few after_key)
fewer_placed false q p s ls few = fewer_allowed (may_begin p) q (json.string s) (λ next. punctuate next ls) after_value _ (omega (arith, few after_value))

-- the tokens have no more texts that pass than the lexemes
pub punctuate-passing : (q : List ℕ → Bool) (p : Place) (ls : List Lexeme) → passing_tokens q (punctuate p ls) ≤ passing_texts q (texts_of ls)
unfolding punctuate
punctuate-passing q fresh [] = omega arith
punctuate-passing q after_value [] = omega arith
punctuate-passing q after_comma [] = omega arith
punctuate-passing q after_key [] = omega arith
punctuate-passing q p (token json.begin_object ∷ ls) = fewer_allowed (may_begin p) q json.begin_object (λ next. punctuate next ls) fresh _ (punctuate-passing q fresh ls)
punctuate-passing q p (token json.end_object ∷ ls) = fewer_allowed (may_close p) q json.end_object (λ next. punctuate next ls) after_value _ (punctuate-passing q after_value ls)
punctuate-passing q p (token json.begin_array ∷ ls) = fewer_allowed (may_begin p) q json.begin_array (λ next. punctuate next ls) fresh _ (punctuate-passing q fresh ls)
punctuate-passing q p (token json.end_array ∷ ls) = fewer_allowed (may_close p) q json.end_array (λ next. punctuate next ls) after_value _ (punctuate-passing q after_value ls)
punctuate-passing q p (token (json.key t) ∷ ls) = omega arith
punctuate-passing q p (token (json.number t) ∷ ls) = fewer_allowed (may_begin p) q (json.number t) (λ next. punctuate next ls) after_value _ (punctuate-passing q after_value ls)
punctuate-passing q p (token (json.boolean v) ∷ ls) = fewer_allowed (may_begin p) q (json.boolean v) (λ next. punctuate next ls) after_value _ (punctuate-passing q after_value ls)
punctuate-passing q p (token json.null ∷ ls) = fewer_allowed (may_begin p) q json.null (λ next. punctuate next ls) after_value _ (punctuate-passing q after_value ls)
punctuate-passing q p (token json.bad ∷ ls) = omega arith
punctuate-passing q p (token (json.string s) ∷ ls) = fewer_placed (begins_colon ls) q p s ls (λ r. punctuate-passing q r ls)
punctuate-passing q fresh (comma ∷ ls) = omega arith
punctuate-passing q after_value (comma ∷ ls) = punctuate-passing q after_comma ls
punctuate-passing q after_comma (comma ∷ ls) = omega arith
punctuate-passing q after_key (comma ∷ ls) = omega arith
punctuate-passing q fresh (colon ∷ ls) = omega arith
punctuate-passing q after_value (colon ∷ ls) = omega arith
punctuate-passing q after_comma (colon ∷ ls) = omega arith
punctuate-passing q after_key (colon ∷ ls) = punctuate-passing q fresh ls

-- ---- the value that the lexemes are

-- the value that they are, where nothing follows it
abbrev pub tree : List Lexeme → Option Json
tree ls = option_and_then (λ p. if_last p.0 p.1) (value max_depth (punctuate fresh ls))

-- what is read as the whole leaves no tokens
whole : (o : Option (Json × List Token)) (j : Json) → option_and_then (λ p. if_last p.0 p.1) o ≡ Some j → o ≡ Some (j, [])
whole None j e = absurd (cc)
whole (Some (k, [])) j e = let same : k ≡ j = cc in ap (λ x. Some (x, [])) same
whole (Some (k, t ∷ ts)) j e = absurd (cc)

-- the value of changed lexemes is the changed value
pub tree-retext : (f : Change) (ls : List Lexeme) (j : Json) → tree ls ≡ Some j → tree (retext f 0 ls) ≡ Some (rejson f 0 j)
tree-retext f ls j e =
    let all = whole (value max_depth (punctuate fresh ls)) j e in
    ap (λ ts. option_and_then (λ p. if_last p.0 p.1) (value max_depth ts)) (punctuate-retext f 0 fresh ls) ∙ ap (option_and_then (λ p. if_last p.0 p.1)) (value-retok max_depth f 0 (punctuate fresh ls) [] j all)

-- ---- the document whose texts begin with their numbers

-- the document that the lexemes are read as once each text begins with its number, of which the document under any change is made
pub record Tagged (ls : List Lexeme) : Type 0 where
  pub document : Data
  pub read : (f : Change) → read_lexemes (retext f 0 ls) ≡ Some (reword (by_tag f) document)
  pub tidy : IsTidy document
  pub few : (q : List ℕ → Bool) → passing q document ≤ passing_texts q (renumber tag 0 (texts_of ls))

-- lexemes that are read as a document have one
pub tagged : (ls : List Lexeme) (d : Data) → read_lexemes ls ≡ Some d → Tagged ls
tagged ls d e =
    let j = and_then_some of_json (tree ls) d e in
    let numbered_tree = tree-retext tag ls j.0 j.1 in
    let numbered_json : Json = rejson tag 0 j.0 in
    let under : (f : Change) → read_lexemes (retext f 0 ls) ≡ option_map (reword (by_tag f)) (of_json numbered_json) =
    λ f. ap read_lexemes (sym (retext-retext (λ k. by_tag f) tag 0 ls)) ∙ ap (option_and_then of_json) (tree-retext (λ k. by_tag f) (retext tag 0 ls) numbered_json numbered_tree) ∙ of_json-rejson (by_tag f) 0 numbered_json in
    let back = map_some (reword (by_tag (λ k t. t))) (of_json numbered_json) d (sym (under (λ k t. t)) ∙ ap read_lexemes (retext-same 0 ls) ∙ e) in
    let made = of_json-made numbered_json back.0 back.1 in
    let all = whole (value max_depth (punctuate fresh (retext tag 0 ls))) numbered_json numbered_tree in
    record {
      document = back.0;
      read = λ f. under f ∙ ap (option_map (reword (by_tag f))) back.1;
      tidy = made.tidy;
      few = λ q. omega (arith, made.few q, value-passing max_depth q (punctuate fresh (retext tag 0 ls)) [] numbered_json all, punctuate-passing q fresh (retext tag 0 ls), ap (passing_texts q) (texts_of-retext tag 0 ls));
    }

module _ (ls : List Lexeme) (t : Tagged ls) where
  -- the document under a change
  made_by : (f : Change) (d : Data) → read_lexemes (retext f 0 ls) ≡ Some d → reword (by_tag f) t.document ≡ d
  made_by f d e = same_Some _ _ (sym (t.read f) ∙ e)

  -- the document as it is
  made_unchanged : (d : Data) → read_lexemes ls ≡ Some d → reword (by_tag (λ n s. s)) t.document ≡ d
  made_unchanged d e = made_by (λ n s. s) d (ap read_lexemes (retext-same 0 ls) ∙ e)

  -- a text that a path leads to is one of the texts, behind its number
  numbered_at : (steps : List Step) (u : List ℕ) → text_at steps t.document ≡ Some u → (n : ℕ) × (s : List ℕ) × (slice_get (texts_of ls) n ≡ Some s) × (u ≡ n ∷ s)
  numbered_at steps u is =
      let some = text_at-passing (bytes_eq u) steps t.document u is ((bytes_eq-Decides u u).1 refl) in
      let found = numbered u 0 (texts_of ls) (omega (arith, some, t.few (bytes_eq u))) in
      let k : 0 + found.0 ≡ found.0 = omega arith in
      (found.0, found.1, found.2, found.3 ∙ ap (λ i. i ∷ found.1) k)

  -- where a path leads to a text under a change, it leads to one of the texts, which that change made
  led_to : (f : Change) (dm : Data) (steps : List Step) (v : List ℕ) → read_lexemes (retext f 0 ls) ≡ Some dm → text_at steps dm ≡ Some v
      → (n : ℕ) × (s : List ℕ) × (slice_get (texts_of ls) n ≡ Some s) × (text_at steps t.document ≡ Some (n ∷ s)) × (f n s ≡ v)
  led_to f dm steps v g is =
      let u = map_some (by_tag f) (text_at steps t.document) v (sym (text_at-reword (by_tag f) steps t.document) ∙ ap (text_at steps) (made_by f dm g) ∙ is) in
      let at = numbered_at steps u.0 u.1 in
      (at.0, at.1, at.2, u.1 ∙ ap Some at.3, sym (ap (by_tag f) at.3) ∙ u.2)

  -- and what it leads to under a change is what that change makes of the text
  leads_to : (f : Change) (dm : Data) (steps : List Step) (n : ℕ) (s : List ℕ) → read_lexemes (retext f 0 ls) ≡ Some dm → text_at steps t.document ≡ Some (n ∷ s) → text_at steps dm ≡ Some (f n s)
  leads_to f dm steps n s g at = sym (ap (text_at steps) (made_by f dm g)) ∙ text_at-reword (by_tag f) steps t.document ∙ ap (option_map (by_tag f)) at

  -- so does a path in the document as it is
  led_unchanged : (d : Data) (steps : List Step) (v : List ℕ) → read_lexemes ls ≡ Some d → text_at steps d ≡ Some v
      → (n : ℕ) × (slice_get (texts_of ls) n ≡ Some v) × (text_at steps t.document ≡ Some (n ∷ v))
  led_unchanged d steps v e is =
      let at = led_to (λ n s. s) d steps v (ap read_lexemes (retext-same 0 ls) ∙ e) is in
      (at.0, at.2 ∙ ap Some at.4, at.3 ∙ ap (λ x. Some (at.0 ∷ x)) at.4)

-- ---- the theorems

-- Lexemes that are read as a document are still read as one once their texts are others, and a path that leads to a text leads to what that text became.
pub text_at-retext : (ls : List Lexeme) (d : Data) (f : Change) → read_lexemes ls ≡ Some d
    → (dm : Data) × (read_lexemes (retext f 0 ls) ≡ Some dm) × ((steps : List Step) (s : List ℕ) → text_at steps d ≡ Some s → (n : ℕ) × (slice_get (texts_of ls) n ≡ Some s) × (text_at steps dm ≡ Some (f n s)))
text_at-retext ls d f e =
    let t = tagged ls d e in
    (reword (by_tag f) t.document, t.read f, λ steps s is. let at = led_unchanged ls t d steps s e is in (at.0, at.1, leads_to ls t f _ steps at.0 s (t.read f) at.2))

-- the change of one text
abbrev pub only : ℕ → List ℕ → Change
only k new n s = if n == k then new else s

-- it makes nothing of a text that has another number
only_there : (k : ℕ) (new u : List ℕ) → has_number k u ≡ false → by_tag (only k new) u ≡ by_tag (λ n s. s) u
only_there k new [] h = refl
only_there k new (n ∷ s) h = rw h

-- Where a path leads to the text of this number once the texts tell their numbers, a change of this text alone changes the document there.
pub set_at-retext : (ls : List Lexeme) (d dm : Data) (f : Change) (steps : List Step) (k : ℕ) (s new : List ℕ)
    → ((n m : ℕ) (a b : List ℕ) → n < length (texts_of ls) → m < length (texts_of ls) → f n a ≡ f m b → n ≡ m)
    → read_lexemes ls ≡ Some d → read_lexemes (retext f 0 ls) ≡ Some dm → text_at steps dm ≡ Some (f k s) → slice_get (texts_of ls) k ≡ Some s
    → read_lexemes (retext (λ n t. if n == k then new else t) 0 ls) ≡ Some (set_at steps new d)
set_at-retext ls d dm f steps k s new tells e g is here =
    let t = tagged ls d e in
    let at = led_to ls t f dm steps (f k s) g is in
    let same : at.0 ≡ k = tells at.0 k at.1 s (slice_get_within (texts_of ls) at.0 at.1 at.2) (slice_get_within (texts_of ls) k s here) at.4 in
    let marked : (at.0 == k) ≡ true = eq-eqb at.0 k same in
    let one_only : passing (has_number k) t.document ≤ 1 = omega (arith, t.few (has_number k), one_has_number k 0 (texts_of ls)) in
    let changed = set_at-reword (by_tag (λ n a. a)) (by_tag (only k new)) (has_number k) (only_there k new) steps t.document (at.0 ∷ at.1) t.tidy one_only at.3 marked in
    let there : only k new at.0 at.1 ≡ new = rw marked in
    t.read (only k new) ∙ ap Some (changed ∙ ap (λ x. set_at steps x (reword (by_tag (λ n a. a)) t.document)) there ∙ ap (set_at steps new) (made_unchanged ls t d e))
