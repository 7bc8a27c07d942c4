-- Documents whose texts are others, and how many of their texts pass a test.
use Rattle.std.proofs.Common.{◌≡◌, ℕ, ◌+◌, ◌≤◌, Bool, List, Option, Some, None, option_map, option_and_then, Ordering, Less, Equal, Greater, nat_cmp, refl, ap, ◌∙◌, subst, arith}
use Rattle.std.proofs.lemmas.Cmp.{nat_list_cmp_total}
use Rattle.std.specs.Cmp.Lexicographic.{slice_cmp}
use Rattle.std.specs.Ordering.{match_ordering, ordering_reverse}
use Rattle.json.specs.Json as json
use Rattle.serde_json.specs.Data.{Num, Data, null, boolean, number, string, array, object, Items, no_items, item, Members, no_members, member, put}
use Rattle.serde_json.specs.Read.{number_of, of_json, of_items, of_members}
use Rattle.json_places.proofs.Trees.{one, passing_json, passing_items, passing_members, count, rejson, reitems, remembers}

-- ---- the documents, with each text changed

abbrev mutual
  pub reword : (List ℕ → List ℕ) → Data → Data
  reword c null = null
  reword c (boolean b) = boolean b
  reword c (number n) = number n
  reword c (string s) = string (c s)
  reword c (array ds) = array (reword_items c ds)
  reword c (object ms) = object (reword_members c ms)

  pub reword_items : (List ℕ → List ℕ) → Items → Items
  reword_items c no_items = no_items
  reword_items c (item d ds) = item (reword c d) (reword_items c ds)

  pub reword_members : (List ℕ → List ℕ) → Members → Members
  reword_members c no_members = no_members
  reword_members c (member k d ms) = member k (reword c d) (reword_members c ms)

-- ---- how many texts pass a test

abbrev mutual
  pub passing : (List ℕ → Bool) → Data → ℕ
  passing q null = 0
  passing q (boolean b) = 0
  passing q (number n) = 0
  passing q (string s) = one (q s)
  passing q (array ds) = passing_within q ds
  passing q (object ms) = passing_among q ms

  pub passing_within : (List ℕ → Bool) → Items → ℕ
  passing_within q no_items = 0
  passing_within q (item d ds) = passing q d + passing_within q ds

  pub passing_among : (List ℕ → Bool) → Members → ℕ
  passing_among q no_members = 0
  passing_among q (member k d ms) = passing q d + passing_among q ms

-- ---- each key once, in order

-- each key is above this one
abbrev pub Above : List ℕ → Members → Type 0
Above l no_members = Unit {0}
Above l (member k d ms) = (slice_cmp nat_cmp l k ≡ Less) × Above l ms

abbrev mutual
  pub IsTidy : Data → Type 0
  IsTidy null = Unit {0}
  IsTidy (boolean b) = Unit {0}
  IsTidy (number n) = Unit {0}
  IsTidy (string s) = Unit {0}
  IsTidy (array ds) = AreTidy ds
  IsTidy (object ms) = InOrder ms

  pub AreTidy : Items → Type 0
  AreTidy no_items = Unit {0}
  AreTidy (item d ds) = IsTidy d × AreTidy ds

  pub InOrder : Members → Type 0
  InOrder no_members = Unit {0}
  InOrder (member k d ms) = Above k ms × IsTidy d × InOrder ms

-- a key that is below one that all keys are above
Above-under : (k l : List ℕ) (ms : Members) → slice_cmp nat_cmp k l ≡ Less → Above l ms → Above k ms
Above-under k l no_members less h = tt
Above-under k l (member m d ms) less h = (nat_list_cmp_total.trans k l m less h.0, Above-under k l ms less h.1)

Above-put_at : (o : Ordering) (a k l : List ℕ) (d e : Data) (ms : Members) → slice_cmp nat_cmp a k ≡ Less → Above a (member l e ms) → Above a (put k d ms)
    → Above a (match_ordering o (member k d (member l e ms)) (member l d ms) (member l e (put k d ms)))
Above-put_at Less a k l d e ms less h later = (less, h)
Above-put_at Equal a k l d e ms less h later = h
Above-put_at Greater a k l d e ms less h later = (h.0, later)

-- a key that all keys are above stays so as a member above it is put in
Above-put : (a k : List ℕ) (d : Data) (ms : Members) → slice_cmp nat_cmp a k ≡ Less → Above a ms → Above a (put k d ms)
Above-put a k d no_members less h = (less, tt)
Above-put a k d (member l e ms) less h = Above-put_at (slice_cmp nat_cmp k l) a k l d e ms less h (Above-put a k d ms less h.1)

InOrder-put_at : (o : Ordering) (k l : List ℕ) (d e : Data) (ms : Members) → slice_cmp nat_cmp k l ≡ o → IsTidy d → InOrder (member l e ms) → InOrder (put k d ms)
    → InOrder (match_ordering o (member k d (member l e ms)) (member l d ms) (member l e (put k d ms)))
InOrder-put_at Less k l d e ms is tidy h later = ((is, Above-under k l ms is h.0), tidy, h)
InOrder-put_at Equal k l d e ms is tidy h later = (h.0, tidy, h.2)
InOrder-put_at Greater k l d e ms is tidy h later = (Above-put l k d ms (nat_list_cmp_total.antisymm l k ∙ ap ordering_reverse is) h.0, h.1, later)

-- a member that is put in keeps the keys in order, each once
pub InOrder-put : (k : List ℕ) (d : Data) (ms : Members) → IsTidy d → InOrder ms → InOrder (put k d ms)
InOrder-put k d no_members tidy h = (tt, tidy, tt)
InOrder-put k d (member l e ms) tidy h = InOrder-put_at (slice_cmp nat_cmp k l) k l d e ms refl tidy h (InOrder-put k d ms tidy h.2)

passing-put_at : (o : Ordering) (q : List ℕ → Bool) (k l : List ℕ) (d e : Data) (ms : Members) → passing_among q (put k d ms) ≤ passing q d + passing_among q ms
    → passing_among q (match_ordering o (member k d (member l e ms)) (member l d ms) (member l e (put k d ms))) ≤ passing q d + (passing q e + passing_among q ms)
passing-put_at Less q k l d e ms later = omega arith
passing-put_at Equal q k l d e ms later = omega arith
passing-put_at Greater q k l d e ms later = omega arith

-- a member that is put in brings no more texts than it has
pub passing-put : (q : List ℕ → Bool) (k : List ℕ) (d : Data) (ms : Members) → passing_among q (put k d ms) ≤ passing q d + passing_among q ms
passing-put q k d no_members = omega arith
passing-put q k d (member l e ms) = passing-put_at (slice_cmp nat_cmp k l) q k l d e ms (passing-put q k d ms)

-- ---- what a value's document has

-- a value that was changed was there
pub map_some : {A B : Type 0} (g : A → B) (o : Option A) (b : B) → option_map g o ≡ Some b → (a : A) × (o ≡ Some a) × (g a ≡ b)
map_some g None b e = absurd (cc)
map_some g (Some a) b e = (a, refl, cc)

-- where two steps lead to a value, the first led to one
pub and_then_some : {A B : Type 0} (g : A → Option B) (o : Option A) (b : B) → option_and_then g o ≡ Some b → (a : A) × (o ≡ Some a) × (g a ≡ Some b)
and_then_some g None b e = absurd (cc)
and_then_some g (Some a) b e = (a, refl, e)

-- its keys are in order, each once, and it has no more texts than the value has
pub record Made (j : json.Json) (d : Data) : Type 0 where
  pub tidy : IsTidy d
  pub few : (q : List ℕ → Bool) → passing q d ≤ passing_json q j

record MadeItems (js : json.Items) (ds : Items) : Type 0 where
  pub tidy : AreTidy ds
  pub few : (q : List ℕ → Bool) → passing_within q ds ≤ passing_items q js

record MadeMembers (ms : json.Members) (found out : Members) : Type 0 where
  pub tidy : InOrder out
  pub few : (q : List ℕ → Bool) → passing_among q out ≤ passing_members q ms + passing_among q found

made_leaf : (j : json.Json) (e d : Data) → Some e ≡ Some d → IsTidy e → ((q : List ℕ → Bool) → passing q e ≤ passing_json q j) → Made j d
made_leaf j e d is tidy few = let same : e ≡ d = cc in subst (Made j) same record { tidy = tidy; few = few }

mutual
  pub of_json-made : (j : json.Json) (d : Data) → of_json j ≡ Some d → Made j d
  of_json-made json.null d e = made_leaf json.null null d e tt (λ q. omega arith)
  of_json-made (json.boolean b) d e = made_leaf (json.boolean b) (boolean b) d e tt (λ q. omega arith)
  of_json-made (json.number s) d e = let is = map_some number (number_of s) d e in subst (Made (json.number s)) is.2 record { tidy = tt; few = λ q. omega arith }
  of_json-made (json.string s) d e = made_leaf (json.string s) (string s) d e tt (λ q. omega arith)
  of_json-made (json.array js) d e =
      let is = map_some array (of_items js) d e in let m = of_items-made js is.0 is.1 in
      subst (Made (json.array js)) is.2 record { tidy = m.tidy; few = m.few }
  of_json-made (json.object ms) d e =
      let is = map_some object (of_members ms no_members) d e in let m = of_members-made ms no_members is.0 tt is.1 in
      subst (Made (json.object ms)) is.2 record { tidy = m.tidy; few = λ q. omega (arith, m.few q) }

  of_items-made : (js : json.Items) (ds : Items) → of_items js ≡ Some ds → MadeItems js ds
  of_items-made json.no_items ds e = let same : no_items ≡ ds = cc in subst (MadeItems json.no_items) same record { tidy = tt; few = λ q. omega arith }
  of_items-made (json.item j js) ds e =
      let first = and_then_some (λ d. option_map (item d) (of_items js)) (of_json j) ds e in
      let later = map_some (item first.0) (of_items js) ds first.2 in
      let m = of_json-made j first.0 first.1 in
      let more = of_items-made js later.0 later.1 in
      subst (MadeItems (json.item j js)) later.2 record { tidy = (m.tidy, more.tidy); few = λ q. omega (arith, m.few q, more.few q) }

  of_members-made : (ms : json.Members) (found out : Members) → InOrder found → of_members ms found ≡ Some out → MadeMembers ms found out
  of_members-made json.no_members found out tidy e = let same : found ≡ out = cc in subst (MadeMembers json.no_members found) same record { tidy = tidy; few = λ q. omega arith }
  of_members-made (json.member k j ms) found out tidy e =
      let first = and_then_some (λ d. of_members ms (put k d found)) (of_json j) out e in
      let m = of_json-made j first.0 first.1 in
      let more = of_members-made ms (put k first.0 found) out (InOrder-put k first.0 found m.tidy tidy) first.2 in
      record { tidy = more.tidy; few = λ q. omega (arith, m.few q, more.few q, passing-put q k first.0 found) }

-- ---- the document of a changed value

put-reword_at : (o : Ordering) (c : List ℕ → List ℕ) (k l : List ℕ) (d e : Data) (ms : Members) → put k (reword c d) (reword_members c ms) ≡ reword_members c (put k d ms)
    → match_ordering o (member k (reword c d) (member l (reword c e) (reword_members c ms))) (member l (reword c d) (reword_members c ms)) (member l (reword c e) (put k (reword c d) (reword_members c ms)))
    ≡ reword_members c (match_ordering o (member k d (member l e ms)) (member l d ms) (member l e (put k d ms)))
put-reword_at Less c k l d e ms later = refl
put-reword_at Equal c k l d e ms later = refl
put-reword_at Greater c k l d e ms later = ap (member l (reword c e)) later

-- a changed member is put in where it was
pub put-reword : (c : List ℕ → List ℕ) (k : List ℕ) (d : Data) (ms : Members) → put k (reword c d) (reword_members c ms) ≡ reword_members c (put k d ms)
put-reword c k d no_members = refl
put-reword c k d (member l e ms) = put-reword_at (slice_cmp nat_cmp k l) c k l d e ms (put-reword c k d ms)

same_number : (c : List ℕ → List ℕ) (o : Option Num) → option_map number o ≡ option_map (reword c) (option_map number o)
same_number c None = refl
same_number c (Some n) = refl

as_array : (c : List ℕ → List ℕ) (o : Option Items) (p : Option Items) → p ≡ option_map (reword_items c) o → option_map array p ≡ option_map (reword c) (option_map array o)
as_array c None p e = ap (option_map array) e
as_array c (Some ds) p e = ap (option_map array) e

as_object : (c : List ℕ → List ℕ) (o : Option Members) (p : Option Members) → p ≡ option_map (reword_members c) o → option_map object p ≡ option_map (reword c) (option_map object o)
as_object c None p e = ap (option_map object) e
as_object c (Some ms) p e = ap (option_map object) e

one_more : (c : List ℕ → List ℕ) (x : Option Data) (y : Option Items) (x' : Option Data) (y' : Option Items) → x' ≡ option_map (reword c) x → y' ≡ option_map (reword_items c) y
    → option_and_then (λ d. option_map (item d) y') x' ≡ option_map (reword_items c) (option_and_then (λ d. option_map (item d) y) x)
one_more c None y x' y' e f = rw e
one_more c (Some d) None x' y' e f = rw (e, f)
one_more c (Some d) (Some ds) x' y' e f = rw (e, f)

put_in : (c : List ℕ → List ℕ) (k : List ℕ) (more more' : Members → Option Members) (found : Members) (x x' : Option Data) → x' ≡ option_map (reword c) x
    → ((ms : Members) → more' (reword_members c ms) ≡ option_map (reword_members c) (more ms))
    → option_and_then (λ d. more' (put k d (reword_members c found))) x' ≡ option_map (reword_members c) (option_and_then (λ d. more (put k d found)) x)
put_in c k more more' found None x' e later = rw e
put_in c k more more' found (Some d) x' e later = rw (e, put-reword c k d found) (later (put k d found))

-- the document of a changed value is the changed document
mutual
  pub of_json-rejson : (c : List ℕ → List ℕ) (n : ℕ) (j : json.Json) → of_json (rejson (λ k. c) n j) ≡ option_map (reword c) (of_json j)
  of_json-rejson c n json.null = refl
  of_json-rejson c n (json.boolean b) = refl
  of_json-rejson c n (json.number s) = same_number c (number_of s)
  of_json-rejson c n (json.string s) = refl
  of_json-rejson c n (json.array js) = as_array c (of_items js) _ (of_items-reitems c n js)
  of_json-rejson c n (json.object ms) = as_object c (of_members ms no_members) _ (of_members-remembers c n ms no_members)

  pub of_items-reitems : (c : List ℕ → List ℕ) (n : ℕ) (js : json.Items) → of_items (reitems (λ k. c) n js) ≡ option_map (reword_items c) (of_items js)
  of_items-reitems c n json.no_items = refl
  of_items-reitems c n (json.item j js) = one_more c (of_json j) (of_items js) _ _ (of_json-rejson c n j) (of_items-reitems c (n + count j) js)

  pub of_members-remembers : (c : List ℕ → List ℕ) (n : ℕ) (ms : json.Members) (found : Members) → of_members (remembers (λ k. c) n ms) (reword_members c found) ≡ option_map (reword_members c) (of_members ms found)
  of_members-remembers c n json.no_members found = refl
  of_members-remembers c n (json.member k j ms) found =
      put_in c k (of_members ms) (of_members (remembers (λ k. c) (n + count j) ms)) found (of_json j) _ (of_json-rejson c n j) (λ found. of_members-remembers c (n + count j) ms found)
