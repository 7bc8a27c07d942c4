-- The value that changed tokens are, and how many of its texts pass a test.
use Rattle.std.proofs.Common.{◌≡◌, ℕ, zero, suc, ◌+◌, Bool, true, cond, List, [], ◌∷◌, length, Option, Some, None, option_map, option_and_then, refl, sym, ap, ◌∙◌, subst, arith}
use Rattle.json.specs.Token.{Token}
use Rattle.json.specs.Json.{Json, null, boolean, number, string, array, object, Items, no_items, item, Members, no_members, member, Parse, parse_map, after_end_array, read_key, items_step, members_step, items, members, value_with, value}
use Rattle.json.proofs.Grammar.{closed_array, read_key_is}
use Rattle.json_places.proofs.Retext.{Change}
use Rattle.json_places.proofs.Tokens.{retok}

-- ---- how many texts pass a test

-- 1 where it passes
abbrev pub one : Bool → ℕ
one b = cond b 1 0

-- of the tokens
abbrev pub passing_tokens : (List ℕ → Bool) → List Token → ℕ
passing_tokens q [] = 0
passing_tokens q (Token.string s ∷ ts) = one (q s) + passing_tokens q ts
passing_tokens q (t ∷ ts) = passing_tokens q ts

abbrev mutual
  pub passing_json : (List ℕ → Bool) → Json → ℕ
  passing_json q null = 0
  passing_json q (boolean b) = 0
  passing_json q (number s) = 0
  passing_json q (string s) = one (q s)
  passing_json q (array js) = passing_items q js
  passing_json q (object ms) = passing_members q ms

  pub passing_items : (List ℕ → Bool) → Items → ℕ
  passing_items q no_items = 0
  passing_items q (item j js) = passing_json q j + passing_items q js

  pub passing_members : (List ℕ → Bool) → Members → ℕ
  passing_members q no_members = 0
  passing_members q (member k j ms) = passing_json q j + passing_members q ms

-- how many texts a value has
abbrev pub count : Json → ℕ
count j = passing_json (λ s. true) j

-- ---- the values, with the texts changed, the first of which has this number

abbrev mutual
  pub rejson : Change → ℕ → Json → Json
  rejson f n null = null
  rejson f n (boolean b) = boolean b
  rejson f n (number s) = number s
  rejson f n (string s) = string (f n s)
  rejson f n (array js) = array (reitems f n js)
  rejson f n (object ms) = object (remembers f n ms)

  pub reitems : Change → ℕ → Items → Items
  reitems f n no_items = no_items
  reitems f n (item j js) = item (rejson f n j) (reitems f (n + count j) js)

  pub remembers : Change → ℕ → Members → Members
  remembers f n no_members = no_members
  remembers f n (member k j ms) = member k (rejson f n j) (remembers f (n + count j) ms)

-- ---- what a reader makes of changed tokens

-- The reader reads the changed tokens as the changed value, and each text that it takes is one of the value's.
pub record Kept {A : Type 0} (re : Change → ℕ → A → A) (passing : (List ℕ → Bool) → A → ℕ) (p : Parse A) (ts : List Token) (a : A) (r : List Token) : Type 0 where
  pub again : (f : Change) (n : ℕ) → p (retok f n ts) ≡ Some (re f n a, retok f (n + passing (λ s. true) a) r)
  pub taken : (q : List ℕ → Bool) → passing q a + passing_tokens q r ≡ passing_tokens q ts

-- so it is wherever the reader reads a value
abbrev pub Keeps : {A : Type 0} → (Change → ℕ → A → A) → ((List ℕ → Bool) → A → ℕ) → Parse A → Type 0
Keeps {A} re passing p = (ts : List Token) (a : A) (r : List Token) → p ts ≡ Some (a, r) → Kept re passing p ts a r

-- there are as many tokens as before
pub length-retok : (f : Change) (n : ℕ) (ts : List Token) → length (retok f n ts) ≡ length ts
length-retok f n [] = refl
length-retok f n (Token.begin_object ∷ ts) = ap suc (length-retok f n ts)
length-retok f n (Token.end_object ∷ ts) = ap suc (length-retok f n ts)
length-retok f n (Token.begin_array ∷ ts) = ap suc (length-retok f n ts)
length-retok f n (Token.end_array ∷ ts) = ap suc (length-retok f n ts)
length-retok f n ((Token.key s) ∷ ts) = ap suc (length-retok f n ts)
length-retok f n ((Token.string s) ∷ ts) = ap suc (length-retok f (suc n) ts)
length-retok f n ((Token.number s) ∷ ts) = ap suc (length-retok f n ts)
length-retok f n ((Token.boolean b) ∷ ts) = ap suc (length-retok f n ts)
length-retok f n (Token.null ∷ ts) = ap suc (length-retok f n ts)
length-retok f n (Token.bad ∷ ts) = ap suc (length-retok f n ts)

after_end_array-retok : (f : Change) (n : ℕ) (ts : List Token) → after_end_array (retok f n ts) ≡ option_map (retok f n) (after_end_array ts)
after_end_array-retok f n [] = refl
after_end_array-retok f n (Token.begin_object ∷ ts) = refl
after_end_array-retok f n (Token.end_object ∷ ts) = refl
after_end_array-retok f n (Token.begin_array ∷ ts) = refl
after_end_array-retok f n (Token.end_array ∷ ts) = refl
after_end_array-retok f n ((Token.key s) ∷ ts) = refl
after_end_array-retok f n ((Token.string s) ∷ ts) = refl
after_end_array-retok f n ((Token.number s) ∷ ts) = refl
after_end_array-retok f n ((Token.boolean b) ∷ ts) = refl
after_end_array-retok f n (Token.null ∷ ts) = refl
after_end_array-retok f n (Token.bad ∷ ts) = refl

read_key-retok : (f : Change) (n : ℕ) (ts : List Token) → read_key (retok f n ts) ≡ option_map (λ k. (k.0, retok f n k.1)) (read_key ts)
read_key-retok f n [] = refl
read_key-retok f n (Token.begin_object ∷ ts) = refl
read_key-retok f n (Token.end_object ∷ ts) = refl
read_key-retok f n (Token.begin_array ∷ ts) = refl
read_key-retok f n (Token.end_array ∷ ts) = refl
read_key-retok f n ((Token.key s) ∷ ts) = refl
read_key-retok f n ((Token.string s) ∷ ts) = refl
read_key-retok f n ((Token.number s) ∷ ts) = refl
read_key-retok f n ((Token.boolean b) ∷ ts) = refl
read_key-retok f n (Token.null ∷ ts) = refl
read_key-retok f n (Token.bad ∷ ts) = refl

abbrev pick : {A : Type 0} → A → Option A → A
pick d None = d
pick d (Some a) = a

mapped : {A B : Type 0} (g : A → B) (o : Option (A × List Token)) (b : B) (r : List Token) → parse_map g o ≡ Some (b, r) → (a : A) × (o ≡ Some (a, r)) × (g a ≡ b)
mapped g None b r e = absurd (cc)
mapped g (Some p) b r e = let same = ap (pick (g p.0, p.1)) e in (p.0, ap (λ x. Some (p.0, x.1)) same, ap (λ x. x.0) same)

then_some : {B : Type 0} (g : Json → B → B) (more : Parse B) (o : Option (Json × List Token)) (b : B) (r : List Token) → option_and_then (λ q. parse_map (g q.0) (more q.1)) o ≡ Some (b, r)
    → (j : Json) × (x : List Token) × (c : B) × (o ≡ Some (j, x)) × (more x ≡ Some (c, r)) × (g j c ≡ b)
then_some g more None b r e = absurd (cc)
then_some g more (Some p) b r e = let m = mapped (g p.0) (more p.1) b r e in (p.0, p.1, m.0, refl, m.1, m.2)

module _ (p : Parse Json) (keeps : Keeps rejson passing_json p) where
  items_turn : (m : ℕ) (ts : List Token) (js : Items) (r : List Token) (o : Option (List Token)) → Keeps reitems passing_items (items p m) → after_end_array ts ≡ o → items_step p (items p m) ts o ≡ Some (js, r)
      → Kept reitems passing_items (items p (suc m)) ts js r
  unfolding items
  items_turn m ts js r (Some x) more e read =
      let same = ap (pick (no_items, x)) read in
      subst (λ (y : Items × List Token). Kept reitems passing_items (items p (suc m)) ts y.0 y.1) same
      record {
        again = λ f n. let k : n ≡ n + 0 = omega arith in rw (after_end_array-retok f n ts, e) (ap (λ i. Some (no_items, retok f i x)) k);
        taken = λ q. omega (arith, ap (passing_tokens q) (closed_array ts x e));
      }
  items_turn m ts js r None more e read =
      let parts = then_some item (items p m) (p ts) js r read in
      let first = keeps ts parts.0 parts.1 parts.3 in
      let later = more parts.1 parts.2 r parts.4 in
      subst (λ (y : Items). Kept reitems passing_items (items p (suc m)) ts y r) parts.5
      record {
        again = λ f n.
            let k : (n + count parts.0) + passing_items (λ s. true) parts.2 ≡ n + (count parts.0 + passing_items (λ s. true) parts.2) = omega arith in
            rw (after_end_array-retok f n ts, e, first.again f n, later.again f (n + count parts.0)) (ap (λ i. Some (item (rejson f n parts.0) (reitems f (n + count parts.0) parts.2), retok f i r)) k);
        taken = λ q. omega (arith, first.taken q, later.taken q);
      }

  -- the items are kept, for each bound
  pub items_kept : (m : ℕ) → Keeps reitems passing_items (items p m)
  unfolding items
  items_kept zero ts js r e = absurd (cc)
  items_kept (suc m) ts js r e = items_turn m ts js r (after_end_array ts) (items_kept m) refl e

  members_turn : (m : ℕ) (ts : List Token) (ms : Members) (r : List Token) (o : Option (Option (List ℕ) × List Token)) → Keeps remembers passing_members (members p m) → read_key ts ≡ o
      → option_and_then (λ k. members_step p (members p m) k.0 k.1) o ≡ Some (ms, r) → Kept remembers passing_members (members p (suc m)) ts ms r
  unfolding members
  members_turn m ts ms r None more e read = absurd (cc)
  members_turn m ts ms r (Some (None, x)) more e read =
      let same = ap (pick (no_members, x)) read in
      subst (λ (y : Members × List Token). Kept remembers passing_members (members p (suc m)) ts y.0 y.1) same
      record {
        again = λ f n. let k : n ≡ n + 0 = omega arith in rw (read_key-retok f n ts, e) (ap (λ i. Some (no_members, retok f i x)) k);
        taken = λ q. omega (arith, ap (passing_tokens q) (read_key_is ts None x e));
      }
  members_turn m ts ms r (Some (Some key, x)) more e read =
      let parts = then_some (member key) (members p m) (p x) ms r read in
      let first = keeps x parts.0 parts.1 parts.3 in
      let later = more parts.1 parts.2 r parts.4 in
      subst (λ (y : Members). Kept remembers passing_members (members p (suc m)) ts y r) parts.5
      record {
        again = λ f n.
            let k : (n + count parts.0) + passing_members (λ s. true) parts.2 ≡ n + (count parts.0 + passing_members (λ s. true) parts.2) = omega arith in
            rw (read_key-retok f n ts, e, first.again f n, later.again f (n + count parts.0)) (ap (λ i. Some (member key (rejson f n parts.0) (remembers f (n + count parts.0) parts.2), retok f i r)) k);
        taken = λ q. omega (arith, ap (passing_tokens q) (read_key_is ts (Some key) x e), first.taken q, later.taken q);
      }

  -- the members are kept, for each bound
  pub members_kept : (m : ℕ) → Keeps remembers passing_members (members p m)
  unfolding members
  members_kept zero ts ms r e = absurd (cc)
  members_kept (suc m) ts ms r e = members_turn m ts ms r (read_key ts) (members_kept m) refl e

module _ (a : Parse Items) (o : Parse Members) (keeps_items : Keeps reitems passing_items a) (keeps_members : Keeps remembers passing_members o) where
  leaf : (t : Token) (j : Json) (ts : List Token) (k : Json) (r : List Token) → value_with a o (t ∷ ts) ≡ Some (j, ts) → ((f : Change) (n : ℕ) → value_with a o (retok f n (t ∷ ts)) ≡ Some (rejson f n j, retok f (n + count j) ts))
      → ((q : List ℕ → Bool) → passing_json q j + passing_tokens q ts ≡ passing_tokens q (t ∷ ts)) → value_with a o (t ∷ ts) ≡ Some (k, r) → Kept rejson passing_json (value_with a o) (t ∷ ts) k r
  leaf t j ts k r is changed passed read =
      let same = ap (pick (j, ts)) (sym is ∙ read) in
      subst (λ (y : Json × List Token). Kept rejson passing_json (value_with a o) (t ∷ ts) y.0 y.1) same record { again = changed; taken = passed }

  stay : (t : Json) (ts : List Token) (f : Change) (n : ℕ) → ◌≡◌ {A = Option (Json × List Token)} (Some (t, retok f n ts)) (Some (t, retok f (n + 0) ts))
  stay t ts f n = let k : n ≡ n + 0 = omega arith in ap (λ i. Some (t, retok f i ts)) k

  -- a value is kept where its items and members are
  pub value_with_kept : Keeps rejson passing_json (value_with a o)
  value_with_kept [] j r e = absurd (cc)
  value_with_kept (Token.begin_object ∷ ts) j r e = let parts = mapped object (o ts) j r e in let k = keeps_members ts parts.0 r parts.1 in
      subst (λ (y : Json). Kept rejson passing_json (value_with a o) (Token.begin_object ∷ ts) y r) parts.2 record { again = λ f n. ap (parse_map object) (k.again f n); taken = k.taken }
  value_with_kept (Token.end_object ∷ ts) j r e = absurd (cc)
  value_with_kept (Token.begin_array ∷ ts) j r e = let parts = mapped array (a ts) j r e in let k = keeps_items ts parts.0 r parts.1 in
      subst (λ (y : Json). Kept rejson passing_json (value_with a o) (Token.begin_array ∷ ts) y r) parts.2 record { again = λ f n. ap (parse_map array) (k.again f n); taken = k.taken }
  value_with_kept (Token.end_array ∷ ts) j r e = absurd (cc)
  value_with_kept ((Token.key s) ∷ ts) j r e = absurd (cc)
  value_with_kept ((Token.string s) ∷ ts) j r e = leaf (Token.string s) (string s) ts j r refl (λ f n. let k : suc n ≡ n + 1 = omega arith in ap (λ i. Some (string (f n s), retok f i ts)) k) (λ q. refl) e
  value_with_kept ((Token.number s) ∷ ts) j r e = leaf (Token.number s) (number s) ts j r refl (stay (number s) ts) (λ q. omega arith) e
  value_with_kept ((Token.boolean b) ∷ ts) j r e = leaf (Token.boolean b) (boolean b) ts j r refl (stay (boolean b) ts) (λ q. omega arith) e
  value_with_kept (Token.null ∷ ts) j r e = leaf Token.null null ts j r refl (stay null ts) (λ q. omega arith) e
  value_with_kept (Token.bad ∷ ts) j r e = absurd (cc)

nothing : {A : Type 0} (re : Change → ℕ → A → A) (passing : (List ℕ → Bool) → A → ℕ) → Keeps re passing (λ ts. None)
nothing re passing ts a r e = absurd (cc)

-- a reader that takes the count of the tokens as its bound
bounded : {A : Type 0} (re : Change → ℕ → A → A) (passing : (List ℕ → Bool) → A → ℕ) (p : ℕ → Parse A) → ((m : ℕ) → Keeps re passing (p m)) → Keeps re passing (λ ts. p (length ts) ts)
bounded re passing p keeps ts a r e =
    let k = keeps (length ts) ts a r e in
    record { again = λ f n. ap (λ m. p m (retok f n ts)) (length-retok f n ts) ∙ k.again f n; taken = k.taken }

-- the grammar reads changed tokens as the changed value
pub value_kept : (depth : ℕ) → Keeps rejson passing_json (value depth)
unfolding value
value_kept zero = value_with_kept (λ ts. None) (λ ts. None) (nothing reitems passing_items) (nothing remembers passing_members)
value_kept (suc d) =
    value_with_kept (λ ts. items (value d) (length ts) ts) (λ ts. members (value d) (length ts) ts) (bounded reitems passing_items (items (value d)) (items_kept (value d) (value_kept d)))
    (bounded remembers passing_members (members (value d)) (members_kept (value d) (value_kept d)))

-- a value of changed tokens is the changed value, and the tokens behind it are changed from the next number on
pub value-retok : (depth : ℕ) (f : Change) (n : ℕ) (ts rest : List Token) (j : Json) → value depth ts ≡ Some (j, rest) → value depth (retok f n ts) ≡ Some (rejson f n j, retok f (n + count j) rest)
value-retok depth f n ts rest j e = (value_kept depth ts j rest e).again f n

-- likewise for the items of an array
pub items-retok : (depth m : ℕ) (f : Change) (n : ℕ) (ts rest : List Token) (js : Items) → items (value depth) m ts ≡ Some (js, rest)
    → items (value depth) m (retok f n ts) ≡ Some (reitems f n js, retok f (n + passing_items (λ s. true) js) rest)
items-retok depth m f n ts rest js e = (items_kept (value depth) (value_kept depth) m ts js rest e).again f n

-- likewise for the members of an object
pub members-retok : (depth m : ℕ) (f : Change) (n : ℕ) (ts rest : List Token) (ms : Members) → members (value depth) m ts ≡ Some (ms, rest)
    → members (value depth) m (retok f n ts) ≡ Some (remembers f n ms, retok f (n + passing_members (λ s. true) ms) rest)
members-retok depth m f n ts rest ms e = (members_kept (value depth) (value_kept depth) m ts ms rest e).again f n

-- each text of the tokens is one of the value's, or stands behind it
pub value-passing : (depth : ℕ) (q : List ℕ → Bool) (ts rest : List Token) (j : Json) → value depth ts ≡ Some (j, rest) → passing_json q j + passing_tokens q rest ≡ passing_tokens q ts
value-passing depth q ts rest j e = (value_kept depth ts j rest e).taken q
