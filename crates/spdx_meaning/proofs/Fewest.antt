-- The first of a tree's minimal sets with which another tree doesn't hold has as few requirements as any that tell the two
-- apart.
use Rattle.std.proofs.Common.{◌≡◌, ℕ, suc, ◌+◌, ◌<◌, ◌≤◌, Bool, true, false, ◌&&◌, ◌||◌, cond, List, [], ◌∷◌, ◌++◌, Option, Some, None, length, map, get_or, refl, sym, ◌∙◌, ap, subst, ◌⊎◌, inl, inr, arith}
use Rattle.std.specs.Prelude.{flat_map, not, ◌==◌, ◌↔◌, nat_eq, slice_get, option_map, is_none}
use Rattle.std.specs.Option.{option_map_or}
use Rattle.std.specs.List.{All, IsDistinct, list_any, list_all, find}
use Rattle.std.specs.List.Sorted.{IsStrictlyIncreasing}
use Rattle.std.specs.Ordering.{nat_cmp, ordering_then, is_lt}
use Rattle.std.specs.declared.cmp.Ordering.{Ordering}
use Rattle.std.specs.Cmp.Lexicographic.{slice_cmp}
use Rattle.std.proofs.lemmas.Bool.{eqb-true, eq-eqb}
use Rattle.std.proofs.lemmas.Cmp.{nat_eq_equiv, ranked, by_ranked}
use Rattle.std.proofs.lemmas.List.{length-map}
use Rattle.std.proofs.lemmas.List.Elements.{All-from_recursion, All-head, All-tail}
use Rattle.std.proofs.lemmas.List.Kept.{AllPairs-from_increasing}
use Rattle.std.proofs.lemmas.Map.Keys.{IsDistinct-from_apart}
use Rattle.std.proofs.lemmas.Map.Made.{length-le_from_is_member}
use Rattle.spdx_requirement.specs.Items.{Requirement}
use Rattle.spdx_requirement.specs.Equality.{same_requirement}
use Rattle.spdx_requirement.specs.Texts.{requirement_text}
use Rattle.spdx_parser.specs.Tree.{Tree, leaves}
use Rattle.spdx_evaluation.specs.Truth.{holds}
use Rattle.selections.specs.Sets.{is_in}
use Rattle.selections.specs.Order.{below, AreInOrder}
use Rattle.selections.proofs.Means.{same_truth, either_way, some_passes, in_passes, and_first, and_second, all_weaker, turned_back}
use Rattle.selections.proofs.Apart.{Among}
use Rattle.spdx_meaning.specs.Places.{place_in, answer_at}
use Rattle.spdx_meaning.specs.Meaning.{IsAcceptance, AsksAtLeast}
use Rattle.spdx_meaning.specs.Minimal.{holds_at, is_unmet, NeedsAll, AreMinimalSets}
use Rattle.spdx_meaning.proofs.Meaning.{holds_same, holds_grows, same_with, place_same, found_answer, accepted_there, among_found, met_itself}
use Rattle.spdx_meaning.specs.Apart.{accepts, name_at, names_of, TellApart, AreFewest, IsAlone}

-- ---- what is there

abbrev There : {X : Type 0} → List X → X → Type 0
There [] x = ⊥
There (y ∷ ys) x = (y ≡ x) ⊎ There ys x

there_passes : {X : Type 0} (p : X → Bool) (xs : List X) → list_any p xs ≡ true → (x : X) × (p x ≡ true) × There xs x
there_passes p [] e = let bad : false ≡ true = e in cc
there_passes p (x ∷ xs) e = elim (either_way (p x) (list_any p xs) e) [
  | inl h ↦ (x, h, inl refl)
  | inr h ↦ let rest = there_passes p xs h in (rest.0, rest.1, inr rest.2)
]

all_there : {X : Type 0} (P : X → Type 0) (xs : List X) → All P xs → (x : X) → There xs x → P x
all_there P [] h x there = absurd there
all_there P (y ∷ ys) h x (inl e) = subst P e (All-head P y ys h)
all_there P (y ∷ ys) h x (inr k) = all_there P ys (All-tail P y ys h) x k

passes_there : {X : Type 0} (q : X → Bool) (xs : List X) → list_all q xs ≡ true → (x : X) → There xs x → q x ≡ true
passes_there q [] e x there = absurd there
passes_there q (y ∷ ys) e x (inl is) = ap q (sym is) ∙ and_first (q y) (list_all q ys) e
passes_there q (y ∷ ys) e x (inr k) = passes_there q ys (and_second (q y) (list_all q ys) e) x k

any_map : {X Y : Type 0} (q : Y → Bool) (f : X → Y) (xs : List X) → list_any q (map f xs) ≡ list_any (λ x. q (f x)) xs
any_map q f [] = refl
any_map q f (x ∷ xs) = ap (λ (b : Bool). q (f x) || b) (any_map q f xs)

-- ---- places that come first

abbrev is_first : List Requirement → ℕ → Bool
is_first qs k = answer_at qs (λ q. place_in qs q == k) k

first_true : (qs : List Requirement) (r : Requirement) → list_any (λ q. same_requirement q r) qs ≡ true → is_first qs (place_in qs r) ≡ true
first_true qs r e =
    let n = place_in qs r in
    found_answer (λ q. place_in qs q == n) (λ q s same. ap (λ (k : ℕ). k == n) (place_same qs q s same)) qs r e ∙ eq-eqb n n refl

at_place : (qs : List Requirement) (r q : Requirement) → slice_get qs (place_in qs r) ≡ Some q → same_requirement q r ≡ true
at_place [] r q e = let bad : ◌≡◌ {A = Option Requirement} None (Some q) = e in cc
at_place (x ∷ xs) r q e = cases (same_requirement x r) refl (at_place xs r q) e
  where
    cases : (b : Bool) → same_requirement x r ≡ b → (slice_get xs (place_in xs r) ≡ Some q → same_requirement q r ≡ true) → slice_get (x ∷ xs) (cond b 0 (place_in xs r + 1)) ≡ Some q → same_requirement q r ≡ true
    cases true k more e = let is : x ≡ q = cc in subst (λ (z : Requirement). same_requirement z r ≡ true) is k
    cases false k more e =
        let next : place_in xs r + 1 ≡ suc (place_in xs r) = omega arith in
        more (sym (ap (slice_get (x ∷ xs)) next) ∙ e)

-- ---- the requirements at places

abbrev with_at : Option Requirement → List Requirement → List Requirement
with_at None rs = rs
with_at (Some q) rs = q ∷ rs

abbrev those_at : List Requirement → List ℕ → List Requirement
those_at qs [] = []
those_at qs (k ∷ ks) = with_at (slice_get qs k) (those_at qs ks)

pub names_there : (qs : List Requirement) (ks : List ℕ) → flat_map (name_at qs) ks ≡ names_of (those_at qs ks)
names_there qs [] = refl
names_there qs (k ∷ ks) = step (slice_get qs k) (names_there qs ks)
  where
    step : (found : Option Requirement) → flat_map (name_at qs) ks ≡ names_of (those_at qs ks) → option_map_or (λ q. requirement_text q ∷ []) found [] ++ flat_map (name_at qs) ks ≡ names_of (with_at found (those_at qs ks))
    step None e = e
    step (Some q) e = ap (λ (z : List (List ℕ)). requirement_text q ∷ z) e

-- those at places that come first accept just what has its place among these
at_accepts : (qs : List Requirement) (ks : List ℕ) → list_all (is_first qs) ks ≡ true → (r : Requirement) → accepts (those_at qs ks) r ≡ is_in ks (place_in qs r)
at_accepts qs [] e r = refl
at_accepts qs (k ∷ ks) e r =
    step (slice_get qs k) refl (at_accepts qs ks (and_second (is_first qs k) (list_all (is_first qs) ks) e) r) (and_first (is_first qs k) (list_all (is_first qs) ks) e)
  where
    n : ℕ
    n = place_in qs r

    step : (found : Option Requirement) → slice_get qs k ≡ found → accepts (those_at qs ks) r ≡ is_in ks n → is_first qs k ≡ true → accepts (with_at found (those_at qs ks)) r ≡ ((k == n) || is_in ks n)
    step None is rest first =
        let bad : false ≡ true = sym (ap (λ (z : Option Requirement). option_map_or (λ q. place_in qs q == k) z false) is) ∙ first in
        cc
    step (Some q) is rest first =
        let there : place_in qs q ≡ k = eqb-true (place_in qs q) k (sym (ap (λ (z : Option Requirement). option_map_or (λ q. place_in qs q == k) z false) is) ∙ first) in
        let one : same_requirement q r ≡ (k == n) =
        same_truth (same_requirement q r) (k == n) (λ h. eq-eqb k n (sym there ∙ place_same qs q r h)) (λ h. at_place qs r q (ap (slice_get qs) (sym (eqb-true k n h)) ∙ is)) in
        ap (λ (b : Bool). b || accepts (those_at qs ks) r) one ∙ ap (λ (b : Bool). (k == n) || b) rest

at_few : (qs : List Requirement) (ks : List ℕ) → length (those_at qs ks) ≤ length ks
at_few qs [] = omega arith
at_few qs (k ∷ ks) = step (slice_get qs k) (at_few qs ks)
  where
    step : (found : Option Requirement) → length (those_at qs ks) ≤ length ks → length (with_at found (those_at qs ks)) ≤ suc (length ks)
    step None h = omega (arith, h)
    step (Some q) h = omega (arith, h)

-- ---- what is accepted

pub accepts_same : (taken : List Requirement) → IsAcceptance (accepts taken)
accepts_same [] r s e = refl
accepts_same (a ∷ taken) r s e = ap (λ (b : Bool). b || accepts taken r) (same_with a r s e) ∙ ap (λ (b : Bool). same_requirement a s || b) (accepts_same taken r s e)

rising_distinct : (ks : List ℕ) → IsStrictlyIncreasing ks → IsDistinct nat_eq ks
rising_distinct ks h = IsDistinct-from_apart nat_eq ks (λ i j d before within. differ (get_or ks i d) (get_or ks j d) (AllPairs-from_increasing ks h i j d before within) (nat_eq (get_or ks i d) (get_or ks j d)) refl)
  where
    differ : (m n : ℕ) → m < n → (b : Bool) → nat_eq m n ≡ b → b ≡ false
    differ m n low true e = let same : m ≡ n = eqb-true m n e in absurd (omega (arith, low, same))
    differ m n low false e = refl

-- at places that come first, of which all are accepted, stand at most as many as are accepted
met_few : (qs taken : List Requirement) (ks : List ℕ) → list_all (is_first qs) ks ≡ true → IsStrictlyIncreasing ks → list_all (answer_at qs (accepts taken)) ks ≡ true → length ks ≤ length taken
met_few qs taken ks firsts rises met =
    let few = length-le_from_is_member nat_eq_equiv ks (map (place_in qs) taken) (rising_distinct ks rises) there in
    omega (arith, few, length-map taken (place_in qs))
  where
    place : (k : ℕ) → (found : Option Requirement) → slice_get qs k ≡ found → is_first qs k ≡ true → answer_at qs (accepts taken) k ≡ true → list_any (nat_eq k) (map (place_in qs) taken) ≡ true
    place k None is first there =
        let bad : false ≡ true = sym (ap (λ (z : Option Requirement). option_map_or (accepts taken) z false) is) ∙ there in
        cc
    place k (Some q) is first there =
        let at : place_in qs q ≡ k = eqb-true (place_in qs q) k (sym (ap (λ (z : Option Requirement). option_map_or (λ q. place_in qs q == k) z false) is) ∙ first) in
        let one = some_passes (λ a. same_requirement a q) taken (sym (ap (λ (z : Option Requirement). option_map_or (accepts taken) z false) is) ∙ there) in
        any_map (nat_eq k) (place_in qs) taken ∙ one.2 (λ a. nat_eq k (place_in qs a)) (eq-eqb k (place_in qs one.0) (sym at ∙ sym (place_same qs one.0 q one.1)))

    there : (k : ℕ) → list_any (nat_eq k) ks ≡ true → list_any (nat_eq k) (map (place_in qs) taken) ≡ true
    there k e =
        let one = some_passes (nat_eq k) ks e in
        let is : k ≡ one.0 = eqb-true k one.0 one.1 in
        place k (slice_get qs k) refl (ap (is_first qs) is ∙ one.3 (is_first qs) firsts) (ap (answer_at qs (accepts taken)) is ∙ one.3 (answer_at qs (accepts taken)) met)

-- ---- the minimal sets of a tree

module _ (t : Tree) (sets : List (List ℕ)) (min : AreMinimalSets t sets) where
  abbrev alone : List ℕ → Requirement → Bool
  alone s r = is_in s (place_in (leaves t) r)

  all_firsts : (s : List ℕ) (rs : List Requirement) → ((r : Requirement) → Among rs r → list_any (λ q. same_requirement q r) (leaves t) ≡ true)
      → map (λ r. alone s r && is_first (leaves t) (place_in (leaves t) r)) rs ≡ map (alone s) rs
  all_firsts s [] found = refl
  all_firsts s (r ∷ rs) found =
      let first = first_true (leaves t) r (found r (λ q e. and_first (q r) (list_all q rs) e)) in
      let more = all_firsts s rs (λ q in_rs. found q (λ p e. in_rs p (and_second (p r) (list_all p rs) e))) in
      ap (λ (b : Bool). (alone s r && b) ∷ map (λ r. alone s r && is_first (leaves t) (place_in (leaves t) r)) rs) first
      ∙ ap (λ (b : Bool). b ∷ map (λ r. alone s r && is_first (leaves t) (place_in (leaves t) r)) rs) (and_true (alone s r))
      ∙ ap (λ (z : List Bool). alone s r ∷ z) more
    where
      and_true : (b : Bool) → (b && true) ≡ b
      and_true true = refl
      and_true false = refl

  set_holds : (s : List ℕ) → There sets s → holds (alone s) t ≡ true
  set_holds s there = min.at_places (is_in s) ∙ met_itself sets s (λ q e. passes_there q sets e s there)

  set_first : (s : List ℕ) → There sets s → list_all (is_first (leaves t)) s ≡ true
  set_first s there =
      let p = λ (k : ℕ). is_in s k && is_first (leaves t) k in
      let needs = all_there (NeedsAll t) sets (All-from_recursion (NeedsAll t) sets min.needed) s there in
      let here : holds_at p t ≡ true = holds_same (λ r. p (place_in (leaves t) r)) (alone s) t (all_firsts s (leaves t) (λ r in_t. among_found (leaves t) r in_t)) ∙ set_holds s there in
      all_weaker p (is_first (leaves t)) s (λ k e. and_second (is_in s k) (is_first (leaves t) k) e) (needs p (λ k e. and_first (is_in s k) (is_first (leaves t) k) e) here)

  module _ (u : Tree) where
    -- the other tree doesn't hold where those at the places alone are accepted
    abbrev pub fails : List ℕ → Bool
    fails s = not (holds (alone s) u)

    grows : (h : Requirement → Bool) → IsAcceptance h → (s : List ℕ) → list_all (answer_at (leaves t) h) s ≡ true → holds (alone s) u ≡ true → holds h u ≡ true
    grows h ok s met e = holds_grows (alone s) h (λ r k. accepted_there h ok (leaves t) r (in_passes (answer_at (leaves t) h) s (place_in (leaves t) r) met k)) u e

    -- what tells the trees apart includes a minimal set that does
    small : (taken : List Requirement) → holds (accepts taken) t ≡ true → holds (accepts taken) u ≡ false → (s : List ℕ) × There sets s × (fails s ≡ true) × (length s ≤ length taken)
    small taken here none =
        let h = accepts taken in
        let one = there_passes (list_all (answer_at (leaves t) h)) sets (sym (min.means h (accepts_same taken)) ∙ here) in (
          one.0,
          one.2,
          refused (holds (alone one.0) u) (λ e. grows h (accepts_same taken) one.0 one.1 e),
          met_few (leaves t) taken one.0 (set_first one.0 one.2) (all_there IsStrictlyIncreasing sets min.rise one.0 one.2) one.1,
        )
      where
        refused : (b : Bool) → (b ≡ true → holds (accepts taken) u ≡ true) → not b ≡ true
        refused true f = let bad : false ≡ true = sym none ∙ f refl in cc
        refused false f = refl

    none_fails : (ss : List (List ℕ)) → find fails ss ≡ None → (s : List ℕ) → There ss s → holds (alone s) u ≡ true
    none_fails [] e s there = absurd there
    none_fails (m ∷ ms) e s there = step (holds (alone m) u) refl e (none_fails ms) there
      where
        step : (b : Bool) → holds (alone m) u ≡ b → cond (not b) (Some m) (find fails ms) ≡ None → (find fails ms ≡ None → (s : List ℕ) → There ms s → holds (alone s) u ≡ true) → (m ≡ s) ⊎ There ms s → holds (alone s) u ≡ true
        step true k e more (inl is) = ap (λ (z : List ℕ). holds (alone z) u) (sym is) ∙ k
        step true k e more (inr h) = more e s h
        step false k e more h = let bad : ◌≡◌ {A = Option (List ℕ)} (Some m) None = e in cc

    pub asks : find fails sets ≡ None → AsksAtLeast t u
    asks none h ok here =
        let one = there_passes (list_all (answer_at (leaves t) h)) sets (sym (min.means h ok) ∙ here) in
        grows h ok one.0 one.1 (none_fails sets none one.0 one.2)

    -- the first that fails is there, and none that fails is smaller
    pub record IsFirst (ss : List (List ℕ)) (s : List ℕ) : Type 0 where
      pub there : There ss s
      pub failing : fails s ≡ true
      pub least : (m : List ℕ) → There ss m → fails m ≡ true → length s ≤ length m

    below_size : (s m : List ℕ) → below s m ≡ true → length s ≤ length m
    below_size s m e =
        let a = length s in
        let b = length m in
        by_ranked (a < b) (a ≡ b) (b < a) (nat_cmp a b) (ranked a b (nat_cmp a b) refl) (λ h k. omega (arith, k)) (λ h k. omega (arith, k))
        (λ h k. let bad : false ≡ true = sym (ap (λ (o : Ordering). is_lt (ordering_then o (slice_cmp nat_cmp s m))) h) ∙ e in absurd cc)

    first_fails : (ss : List (List ℕ)) → AreInOrder ss → (s : List ℕ) → find fails ss ≡ Some s → IsFirst ss s
    first_fails [] h s e = let bad : ◌≡◌ {A = Option (List ℕ)} None (Some s) = e in cc
    first_fails (m ∷ ms) h s e = step (fails m) refl e (first_fails ms h.1 s)
      where
        step : (b : Bool) → fails m ≡ b → cond b (Some m) (find fails ms) ≡ Some s → (find fails ms ≡ Some s → IsFirst ms s) → IsFirst (m ∷ ms) s
        step true k e more =
            let is : m ≡ s = cc in
            record {
              there = inl is;
              failing = ap fails (sym is) ∙ k;
              least = λ n there bad. lower s is n there;
            }
          where
            lower : (s : List ℕ) → m ≡ s → (n : List ℕ) → (m ≡ n) ⊎ There ms n → length s ≤ length n
            lower s is n (inl same) = let size : length s ≡ length n = ap length (sym is ∙ same) in omega (arith, size)
            lower s is n (inr k) = subst (λ (z : List ℕ). length z ≤ length n) is (below_size m n (passes_there (below m) ms h.0 n k))
        step false k e more =
            let rest = more e in
            record {
              there = inr rest.there;
              failing = rest.failing;
              least = λ n there bad. lower rest n there bad;
            }
          where
            lower : IsFirst ms s → (n : List ℕ) → (m ≡ n) ⊎ There ms n → fails n ≡ true → length s ≤ length n
            lower rest n (inl same) bad = let no : false ≡ true = sym k ∙ ap fails same ∙ bad in cc
            lower rest n (inr there) bad = rest.least n there bad

    pub fewest : (s : List ℕ) → find fails sets ≡ Some s → AreFewest t u (names_of (those_at (leaves t) s))
    fewest s e =
        let first = first_fails sets min.ordered s e in
        let same = at_accepts (leaves t) s (set_first s first.there) in
        record {
          apart = (
            those_at (leaves t) s,
            refl,
            holds_same (accepts (those_at (leaves t) s)) (alone s) t (each same (leaves t)) ∙ set_holds s first.there,
            holds_same (accepts (those_at (leaves t) s)) (alone s) u (each same (leaves u)) ∙ turned_back (holds (alone s) u) first.failing,
          );
          fewest = λ others apart.
              let other = small apart.0 apart.2 apart.3 in
              omega (arith, length-map (those_at (leaves t) s) requirement_text, at_few (leaves t) s, first.least other.0 other.1 other.2, other.3, ap length apart.1, length-map apart.0 requirement_text);
        }
      where
        each : ((r : Requirement) → accepts (those_at (leaves t) s) r ≡ alone s r) → (rs : List Requirement) → map (accepts (those_at (leaves t) s)) rs ≡ map (alone s) rs
        each same [] = refl
        each same (r ∷ rs) = ap (λ (b : Bool). b ∷ map (accepts (those_at (leaves t) s)) rs) (same r) ∙ ap (λ (z : List Bool). alone s r ∷ z) (each same rs)

    pub told_alone : (found : Option (List ℕ)) → find fails sets ≡ found → IsAlone t u (option_map (λ s. flat_map (name_at (leaves t)) s) found)
    told_alone None e = asks e
    told_alone (Some s) e = subst (AreFewest t u) (sym (names_there (leaves t) s)) (fewest s e)

-- ---- what is told

pub asks_none : (t u : Tree) (found : Option (List (List ℕ))) → IsAlone t u found → (is_none found ≡ true) ↔ AsksAtLeast t u
asks_none t u None h = ((λ e. h), (λ asks. refl))
asks_none t u (Some names) h = (
  (λ e. let bad : false ≡ true = e in cc),
  (λ asks.
      let apart = h.apart in
      let here : true ≡ false = sym (asks (accepts apart.0) (accepts_same apart.0) apart.2) ∙ apart.3 in
      cc),
)
