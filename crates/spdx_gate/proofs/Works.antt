-- With the advice in `allow` an expression passes.
use Rattle.std.proofs.Common.{◌≡◌, ℕ, zero, suc, ◌+◌, Bool, true, false, ◌||◌, cond, List, [], ◌∷◌, Option, Some, None, map, refl, sym, ap, subst, ◌∙◌, arith}
use Rattle.std.specs.Prelude.{◌==◌, slice_get, All, Contains}
use Rattle.std.specs.List.{list_any}
use Rattle.std.specs.Option.{option_map_or}
use Rattle.std.proofs.lemmas.Bool.{eqb-true}
use Rattle.spdx_requirement.specs.Rows.{Rows}
use Rattle.spdx_requirement.specs.Items.{Requirement}
use Rattle.spdx_lexer.specs.Words.{Placed, words}
use Rattle.spdx_parser.specs.Tree.{Tree, Leaf, leaves}
use Rattle.spdx_parser.specs.Grammar.{IsTheTree}
use Rattle.spdx_evaluation.specs.Truth.{holds, truth_of}
use Rattle.selections.specs.Selection.{IsWithin}
use Rattle.spdx_minimize.specs.GrowthLaws.{truth_grows}
use Rattle.spdx_licensee.specs.Replacements.{KnownReplacement}
use Rattle.spdx_licensee.specs.Sense.{sense}
use Rattle.spdx_licensee.proofs.Unique.{names_once, oks_once}
use Rattle.spdx_policy.specs.declared.decision.Decision.{Decision}
use Rattle.spdx_policy.specs.declared.decision.Decision.TheVariants as decision
use Rattle.spdx_policy.specs.Decisions.{frees, ways_of, decision_of, is_allowed}
use Rattle.spdx_policy.specs.Growing.{with_allowed}
use Rattle.spdx_policy.specs.Meant.{IsEntry, licensee, old, IsOldEntry, entry_mode, IsNamed}
use Rattle.spdx_policy.specs.Rules.{NamedRow, Rules}
use Rattle.spdx_policy.specs.Scopes.{places, places_from}
use Rattle.spdx_policy.proofs.Grows.{grows_right, freed_with}
use Rattle.spdx_why.specs.Marks.{allows}
use Rattle.spdx_why.specs.Serving.{with_numbers}
use Rattle.spdx_gate.specs.Allowing.{mark_of, allowed_in}
use Rattle.spdx_gate.specs.Advising.{HasEntry, serving_of, offered_text, offered_texts, ways_in}

-- ---- an entry has one meaning

leaf_once : (a b : Requirement) → Leaf a ≡ Leaf b → a ≡ b
leaf_once a b e = cc

old_once : (c : Rows) (text : List ℕ) (a b : Requirement) → IsOldEntry c text a → IsOldEntry c text b → a ≡ b
old_once c text a b h k =
    let read : k.read ≡ h.read = oks_once k.read h.read (sym k.reads ∙ h.reads) in
    let there : IsTheTree c entry_mode (words h.read) (Leaf b) = subst (λ (z : List Placed). IsTheTree c entry_mode (words z) (Leaf b)) read k.means in
    leaf_once a b (sym (h.means.only (Leaf b) there.derived))

entry_once : (c : Rows) (text : List ℕ) (a b : Requirement) → IsEntry c text a → IsEntry c text b → a ≡ b
entry_once c text a b (licensee h) (licensee k) = names_once c text a b h k
entry_once c text a b (licensee h) (old none k) = absurd (none a h)
entry_once c text a b (old none h) (licensee k) = absurd (none b k)
entry_once c text a b (old none h) (old also k) = old_once c text a b h k

same_row : (a b : NamedRow) → a.text ≡ b.text → a.sense ≡ b.sense → a ≡ b
same_row a b e f =
    let first : a ≡ (let z : NamedRow = record { text = b.text; sense = a.sense } in z) = ap (λ (t : List ℕ). let z : NamedRow = record { text = t; sense = a.sense } in z) e in
    first ∙ ap (λ (s : Requirement). let z : NamedRow = record { text = b.text; sense = s } in z) f

pub named_once : (c : Rows) (hs : List KnownReplacement) (text : List ℕ) (a b : NamedRow) → IsNamed c hs text a → IsNamed c hs text b → a ≡ b
named_once c hs text a b h k =
    same_row a b (h.text_is ∙ sym k.text_is) (h.sense_is ∙ ap (sense c hs) (entry_once c text h.requirement k.requirement h.entry k.entry) ∙ sym k.sense_is)

-- ---- places

-- what is found among places at which a test passes
record Placed_at {A : Type 0} (test : A → Bool) (f : ℕ → Bool) (i : ℕ) (xs : List A) : Type 0 where
  number : ℕ
  element : A
  there : slice_get xs number ≡ Some element
  passes : test element ≡ true
  chosen : f (i + number) ≡ true

next_place : {A : Type 0} (test : A → Bool) (f : ℕ → Bool) (i : ℕ) (x : A) (xs : List A) → Placed_at test f (suc i) xs → Placed_at test f i (x ∷ xs)
next_place test f i x xs h = record {
  number = suc h.number;
  element = h.element;
  there = h.there;
  passes = h.passes;
  chosen = subst (λ (n : ℕ). f n ≡ true) (let e : suc i + h.number ≡ i + suc h.number = omega arith in e) h.chosen;
}

first_place : {A : Type 0} (test : A → Bool) (f : ℕ → Bool) (i : ℕ) (x : A) (xs : List A) (b : Bool) → test x ≡ true → f i ≡ b → (list_any f (places_from (suc i) test xs) ≡ true → Placed_at test f (suc i) xs)
    → (b || list_any f (places_from (suc i) test xs)) ≡ true → Placed_at test f i (x ∷ xs)
first_place test f i x xs true t g more h = record { number = 0; element = x; there = refl; passes = t; chosen = subst (λ (n : ℕ). f n ≡ true) (let z : i ≡ i + 0 = omega arith in z) g }
first_place test f i x xs false t g more h = next_place test f i x xs (more h)

either_place : {A : Type 0} (test : A → Bool) (f : ℕ → Bool) (i : ℕ) (x : A) (xs : List A) (b : Bool) → test x ≡ b → (list_any f (places_from (suc i) test xs) ≡ true → Placed_at test f (suc i) xs)
    → list_any f (cond b (i ∷ places_from (suc i) test xs) (places_from (suc i) test xs)) ≡ true → Placed_at test f i (x ∷ xs)
either_place test f i x xs true t more h = first_place test f i x xs (f i) t refl more h
either_place test f i x xs false t more h = next_place test f i x xs (more h)

any_place : {A : Type 0} (test : A → Bool) (f : ℕ → Bool) (i : ℕ) (xs : List A) → list_any f (places_from i test xs) ≡ true → Placed_at test f i xs
any_place test f i [] e = absurd (cc)
any_place test f i (x ∷ xs) e = either_place test f i x xs (test x) refl (any_place test f (suc i) xs) e

-- the place of a number that is listed
record Listed_at (k : ℕ) (numbers : List ℕ) : Type 0 where
  place : ℕ
  there : slice_get numbers place ≡ Some k

same_number : (a b : ℕ) → (a == b) ≡ true → a ≡ b
same_number a b e = eqb-true a b e

first_number : (k n : ℕ) (ns : List ℕ) (b : Bool) → (n == k) ≡ b → (list_any (λ m. m == k) ns ≡ true → Listed_at k ns) → (b || list_any (λ m. m == k) ns) ≡ true → Listed_at k (n ∷ ns)
first_number k n ns true t more h = record { place = 0; there = ap Some (same_number n k t) }
first_number k n ns false t more h = let found = more h in record { place = suc found.place; there = found.there }

any_number : (k : ℕ) (numbers : List ℕ) → list_any (λ n. n == k) numbers ≡ true → Listed_at k numbers
any_number k [] e = absurd (cc)
any_number k (n ∷ ns) e = first_number k n ns (n == k) refl (any_number k ns) e

mapped_at : {A B : Type 0} (g : A → B) (xs : List A) (j : ℕ) (x : A) → slice_get xs j ≡ Some x → slice_get (map g xs) j ≡ Some (g x)
mapped_at g [] j x e = let bad : None ≡ Some x = e in absurd (cc)
mapped_at g (y ∷ xs) zero x e = let same : y ≡ x = cc in ap (λ z. Some (g z)) same
mapped_at g (y ∷ xs) (suc j) x e = mapped_at g xs j x e

pub at_place : {A : Type 0} (P : A → Type 0) (xs : List A) (k : ℕ) (x : A) → All P xs → slice_get xs k ≡ Some x → P x
at_place P [] k x all e = let bad : None ≡ Some x = e in absurd (cc)
at_place {A} P (y ∷ xs) zero x all e = subst P (let same : y ≡ x = cc in same) (all 0 y (omega arith))
at_place P (y ∷ xs) (suc k) x all e = at_place P xs k x (λ j d lt. all (suc j) d (omega (arith, lt))) e

-- ---- what is advised works

-- each offer is an entry by its own text
abbrev pub AreNamed : Rules → List NamedRow → Type 0
AreNamed p offers = All (λ (n : NamedRow). IsNamed p.list p.replacements n.text n) offers

marked : (d : Decision) → allows (mark_of d) ≡ is_allowed d
marked (decision.Allowed e) = refl
marked (decision.Denied e) = refl
marked decision.Open = refl

-- a requirement that a chosen offer serves is allowed with the advice
served_allowed : (p : Rules) (tables : List ℕ) (offers : List NamedRow) (numbers : List ℕ) (more : List NamedRow) (r : Requirement) → AreNamed p offers
    → All (HasEntry p more) (offered_texts offers numbers)
    → list_any (λ k. list_any (λ n. n == k) numbers) (places (frees p tables (ways_of p r)) offers) ≡ true → allowed_in (with_allowed p more) tables r ≡ true
served_allowed p tables offers numbers more r named all e =
    let found = any_place (frees p tables (ways_of p r)) (λ k. list_any (λ n. n == k) numbers) 0 offers e in
    let listed = any_number found.number numbers (subst (λ (k : ℕ). list_any (λ n. n == k) numbers ≡ true) (let z : 0 + found.number ≡ found.number = omega arith in z) found.chosen) in
    let text : slice_get (offered_texts offers numbers) listed.place ≡ Some (offered_text offers found.number) = mapped_at (offered_text offers) numbers listed.place found.number listed.there in
    let there = at_place (HasEntry p more) (offered_texts offers numbers) listed.place (offered_text offers found.number) all text in
    let own : offered_text offers found.number ≡ found.element.text = ap (λ (o : Option NamedRow). option_map_or (λ (n : NamedRow). n.text) o []) found.there in
    let entry : IsNamed p.list p.replacements found.element.text there.0 = subst (λ (z : List ℕ). IsNamed p.list p.replacements z there.0) own there.2 in
    let same : there.0 ≡ found.element = named_once p.list p.replacements found.element.text there.0 found.element entry
    (at_place (λ (n : NamedRow). IsNamed p.list p.replacements n.text n) offers found.number found.element named found.there) in
    let within : Contains more found.element = subst (Contains more) same there.1 in
    marked (decision_of (with_allowed p more) tables r) ∙ freed_with p tables (ways_of p r) found.element more found.passes within

either : (a b c : Bool) → (a ≡ true → c ≡ true) → (b ≡ true → c ≡ true) → (a || b) ≡ true → c ≡ true
either true b c f g e = f refl
either false b c f g e = g e

within_advice : (p : Rules) (tables : List ℕ) (offers : List NamedRow) (numbers : List ℕ) (more : List NamedRow) (rs : List Requirement) → AreNamed p offers
    → All (HasEntry p more) (offered_texts offers numbers)
    → IsWithin (with_numbers (map (allowed_in p tables) rs) (serving_of p tables offers (map (ways_of p) rs)) numbers) (map (allowed_in (with_allowed p more) tables) rs)
within_advice p tables offers numbers more [] named all = tt
within_advice p tables offers numbers more (r ∷ rs) named all =
    let q = with_allowed p more in
    let kept : allowed_in p tables r ≡ true → allowed_in q tables r ≡ true =
    λ e. marked (decision_of q tables r) ∙ (grows_right p tables).more_allowed more r (sym (marked (decision_of p tables r)) ∙ e) in (
      either (allowed_in p tables r) (list_any (λ k. list_any (λ n. n == k) numbers) (places (frees p tables (ways_of p r)) offers)) (allowed_in q tables r) kept
          (served_allowed p tables offers numbers more r named all),
      within_advice p tables offers numbers more rs named all,
    )

pub passes_with : (p : Rules) (tables : List ℕ) (t : Tree) (offers : List NamedRow) (numbers : List ℕ) (more : List NamedRow) → AreNamed p offers
    → truth_of t (with_numbers (map (allowed_in p tables) (leaves t)) (serving_of p tables offers (ways_in p t)) numbers) ≡ true
    → All (HasEntry p more) (offered_texts offers numbers) → holds (allowed_in (with_allowed p more) tables) t ≡ true
passes_with p tables t offers numbers more named e all =
    truth_grows t (with_numbers (map (allowed_in p tables) (leaves t)) (serving_of p tables offers (ways_in p t)) numbers) (map (allowed_in (with_allowed p more) tables) (leaves t))
    (within_advice p tables offers numbers more (leaves t) named all) e
