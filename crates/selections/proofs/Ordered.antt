-- Sets with the same numbers, and lists of sets in order.
use Rattle.std.proofs.Common.{◌≡◌, ℕ, suc, ◌+◌, ◌<◌, Bool, true, false, ◌&&◌, ◌||◌, cond, List, [], ◌∷◌, ◌++◌, length, get_or, refl, sym, ◌∙◌, ap, subst, arith}
use Rattle.std.specs.Prelude.{not, ◌==◌}
use Rattle.std.specs.List.{list_any, list_all, dedup, dedup_from, IsDistinct, AllByRecursion}
use Rattle.std.specs.List.Sorted.{IsPermutation, IsSortedBy}
use Rattle.std.specs.List.Retain.{IsFiltered, DiffersFromLast}
use Rattle.std.specs.Ordering.{is_lt, ordering_reverse}
use Rattle.std.specs.declared.cmp.Ordering.{Ordering}
use Rattle.std.specs.declared.cmp.Ordering.TheVariants.{Less, Equal, Greater}
use Rattle.std.proofs.Math.Dec.{eqb}
use Rattle.std.proofs.lemmas.Bool.{eqb-true, eq-eqb}
use Rattle.std.proofs.lemmas.Cmp.{nat_list_cmp_total}
use Rattle.std.proofs.lemmas.List.Filters.{dedup_is}
use Rattle.std.proofs.lemmas.List.Sorted.{list_any-IsPermutation, sorted_far, ranks_by}
use Rattle.std.proofs.lemmas.Map.Keys.{IsDistinct-IsPermutation, IsDistinct-cons, IsDistinct-head, IsDistinct-tail, IsDistinct-from_apart}
use Rattle.std.proofs.lemmas.Map.Lookups.{exact_bytes}
use Rattle.selections.specs.Sets.{is_in, includes, differ, AreApart, met_by}
use Rattle.selections.specs.Order.{set_cmp, below, AreInOrder}
use Rattle.selections.proofs.Means.{and_first, and_second, and_both, turned, turned_back}
use Rattle.selections.proofs.Apart.{Among, all_from, none_passes}

-- ---- sets with the same numbers

abbrev pub SameSet : List ℕ → List ℕ → Type 0
SameSet s m = (p : ℕ → Bool) → list_all p s ≡ list_all p m

all_by_none : {X : Type 0} (p : X → Bool) (xs : List X) → list_all p xs ≡ not (list_any (λ x. not (p x)) xs)
all_by_none p [] = refl
all_by_none p (x ∷ xs) = ap (λ (b : Bool). p x && b) (all_by_none p xs) ∙ step (p x) (list_any (λ y. not (p y)) xs)
  where
    step : (a b : Bool) → (a && not b) ≡ not (not a || b)
    step true b = refl
    step false b = refl

any_by_all : {X : Type 0} (p : X → Bool) (xs : List X) → list_any p xs ≡ not (list_all (λ x. not (p x)) xs)
any_by_all p [] = refl
any_by_all p (x ∷ xs) = ap (λ (b : Bool). p x || b) (any_by_all p xs) ∙ step (p x) (list_all (λ y. not (p y)) xs)
  where
    step : (a b : Bool) → (a || not b) ≡ not (not a && b)
    step true b = refl
    step false b = refl

moved_same : (xs ys : List ℕ) → IsPermutation xs ys → SameSet ys xs
moved_same xs ys h p = all_by_none p ys ∙ ap not (sym (list_any-IsPermutation (λ x. not (p x)) xs ys h)) ∙ sym (all_by_none p xs)

deduped_from : (p : ℕ → Bool) (k : ℕ) (xs : List ℕ) → list_all p (dedup_from eqb k xs) ≡ (p k && list_all p xs)
deduped_from p k [] = refl
deduped_from p k (x ∷ xs) = cases (eqb x k) refl (deduped_from p k xs) (deduped_from p x xs)
  where
    twice : (a b : Bool) → (a && b) ≡ (a && (a && b))
    twice true b = refl
    twice false b = refl

    cases : (b : Bool) → eqb x k ≡ b → list_all p (dedup_from eqb k xs) ≡ (p k && list_all p xs) → list_all p (dedup_from eqb x xs) ≡ (p x && list_all p xs)
        → list_all p (cond b (dedup_from eqb k xs) (k ∷ dedup_from eqb x xs)) ≡ (p k && (p x && list_all p xs))
    cases true e h g = h ∙ twice (p k) (list_all p xs) ∙ ap (λ (z : ℕ). p k && (p z && list_all p xs)) (sym (eqb-true x k e))
    cases false e h g = ap (λ (b : Bool). p k && b) g

deduped_same : (xs : List ℕ) → SameSet (dedup eqb xs) xs
deduped_same [] p = refl
deduped_same (x ∷ xs) p = deduped_from p x xs

-- sorted, and without doubles
pub sorted_same : (set sorted left : List ℕ) → IsPermutation set sorted → IsFiltered (DiffersFromLast eqb) [] sorted left → SameSet left set
sorted_same set sorted left moved filtered p = ap (list_all p) (dedup_is eqb sorted left filtered) ∙ deduped_same sorted p ∙ moved_same set sorted moved p

-- ---- lists of sets with the same numbers

abbrev pub AreSame : List (List ℕ) → List (List ℕ) → Type 0
AreSame [] [] = Unit {0}
AreSame (s ∷ ss) (m ∷ ms) = SameSet s m × AreSame ss ms
AreSame [] (m ∷ ms) = ⊥
AreSame (s ∷ ss) [] = ⊥

pub one_more_same : (ss ms : List (List ℕ)) (s m : List ℕ) → AreSame ss ms → SameSet s m → AreSame (ss ++ s ∷ []) (ms ++ m ∷ [])
one_more_same [] [] s m h e = (e, tt)
one_more_same (x ∷ ss) (y ∷ ms) s m h e = (h.0, one_more_same ss ms s m h.1 e)
one_more_same [] (y ∷ ms) s m h e = absurd h
one_more_same (x ∷ ss) [] s m h e = absurd h

pub same_met : (p : ℕ → Bool) (ss ms : List (List ℕ)) → AreSame ss ms → met_by p ss ≡ met_by p ms
same_met p [] [] h = refl
same_met p (s ∷ ss) (m ∷ ms) h = ap (λ (b : Bool). b || met_by p ss) (h.0 p) ∙ ap (λ (b : Bool). list_all p m || b) (same_met p ss ms h.1)
same_met p [] (m ∷ ms) h = absurd h
same_met p (s ∷ ss) [] h = absurd h

same_in : (s m : List ℕ) → SameSet s m → (k : ℕ) → is_in s k ≡ is_in m k
same_in s m h k = any_by_all (λ x. x == k) s ∙ ap not (h (λ x. not (x == k))) ∙ sym (any_by_all (λ x. x == k) m)

all_alike : {X : Type 0} (p q : X → Bool) → ((x : X) → p x ≡ q x) → (xs : List X) → list_all p xs ≡ list_all q xs
all_alike p q h [] = refl
all_alike p q h (x ∷ xs) = ap (λ (b : Bool). b && list_all p xs) (h x) ∙ ap (λ (b : Bool). q x && b) (all_alike p q h xs)

same_includes : (s m t u : List ℕ) → SameSet s m → SameSet t u → includes s t ≡ includes m u
same_includes s m t u h k = all_alike (is_in s) (is_in m) (same_in s m h) t ∙ k (is_in m)

same_differ : (s m t u : List ℕ) → SameSet s m → SameSet t u → differ s t ≡ differ m u
same_differ s m t u h k =
    ap (λ (b : Bool). not b && not (includes t s)) (same_includes s m t u h k) ∙ ap (λ (b : Bool). not (includes m u) && not b) (same_includes t u s m k h)

same_all : (s m : List ℕ) → SameSet s m → (ts us : List (List ℕ)) → AreSame ts us → list_all (differ s) ts ≡ list_all (differ m) us
same_all s m h [] [] k = refl
same_all s m h (t ∷ ts) (u ∷ us) k =
    ap (λ (b : Bool). b && list_all (differ s) ts) (same_differ s m t u h k.0) ∙ ap (λ (b : Bool). differ m u && b) (same_all s m h ts us k.1)
same_all s m h [] (u ∷ us) k = absurd k
same_all s m h (t ∷ ts) [] k = absurd k

pub same_apart : (ss ms : List (List ℕ)) → AreSame ss ms → AreApart ms → AreApart ss
same_apart [] [] h a = tt
same_apart (s ∷ ss) (m ∷ ms) h a = (same_all s m h.0 ss ms h.1 ∙ a.0, same_apart ss ms h.1 a.1)
same_apart [] (m ∷ ms) h a = absurd h
same_apart (s ∷ ss) [] h a = absurd h

-- ---- lists that are moved

abbrev clash : List ℕ → List ℕ → Bool
clash s m = not (differ s m)

apart_distinct : (ss : List (List ℕ)) → AreApart ss → IsDistinct clash ss
apart_distinct [] h = IsDistinct-from_apart clash [] (λ i j d before within. absurd (omega arith))
apart_distinct (s ∷ ss) h = IsDistinct-cons clash s ss (each ss h.0) (apart_distinct ss h.1)
  where
    each : (ms : List (List ℕ)) → list_all (differ s) ms ≡ true → AllByRecursion (λ m. clash s m ≡ false) ms
    each [] e = tt
    each (m ∷ ms) e = (ap not (and_first (differ s m) (list_all (differ s) ms) e), each ms (and_second (differ s m) (list_all (differ s) ms) e))

distinct_apart : (ss : List (List ℕ)) → IsDistinct clash ss → AreApart ss
distinct_apart [] h = tt
distinct_apart (s ∷ ss) h = (each ss (IsDistinct-head clash s ss h), distinct_apart ss (IsDistinct-tail clash s ss h))
  where
    each : (ms : List (List ℕ)) → AllByRecursion (λ m. clash s m ≡ false) ms → list_all (differ s) ms ≡ true
    each [] e = refl
    each (m ∷ ms) e = and_both (differ s m) (list_all (differ s) ms) (turned (differ s m) e.0) (each ms e.1)

flips : (s m : List ℕ) → clash s m ≡ clash m s
flips s m = ap not (swapped (not (includes s m)) (not (includes m s)))
  where
    swapped : (a b : Bool) → (a && b) ≡ (b && a)
    swapped true true = refl
    swapped true false = refl
    swapped false true = refl
    swapped false false = refl

pub moved_apart : (ss ms : List (List ℕ)) → IsPermutation ss ms → AreApart ss → AreApart ms
moved_apart ss ms h a = distinct_apart ms (IsDistinct-IsPermutation clash flips ss ms h (apart_distinct ss a))

-- ---- in order

abbrev pub sized : List ℕ → List ℕ
sized s = length s ∷ s

pub itself : (s : List ℕ) → includes s s ≡ true
itself s = all_from (is_in s) s (λ k there. found k there (is_in s k) refl)
  where
    found : (k : ℕ) → Among s k → (b : Bool) → is_in s k ≡ b → b ≡ true
    found k there true e = refl
    found k there false e =
        let none = there (λ x. not (x == k)) (none_passes (λ x. x == k) s e) in
        let bad : false ≡ true = sym (ap not (same_number k)) ∙ none in
        cc
      where
        same_number : (k : ℕ) → (k == k) ≡ true
        same_number k = eq-eqb k k refl

later_less : (s m : List ℕ) → below m s ≡ false → differ s m ≡ true → below s m ≡ true
later_less s m up apart = cases (set_cmp s m) refl
  where
    cases : (o : Ordering) → set_cmp s m ≡ o → is_lt o ≡ true
    cases Less e = refl
    cases Equal e =
        let same : sized s ≡ sized m = exact_bytes (sized s) (sized m) e in
        let is : s ≡ m = cc in
        let no : includes s m ≡ false = turned_back (includes s m) (and_first (not (includes s m)) (not (includes m s)) apart) in
        let bad : true ≡ false = sym (itself s) ∙ ap (includes s) is ∙ no in
        cc
    cases Greater e =
        let back : set_cmp m s ≡ Less = nat_list_cmp_total.antisymm (sized m) (sized s) ∙ ap ordering_reverse e in
        let bad : true ≡ false = sym (ap is_lt back) ∙ up in
        cc

pub strictly : (ss : List (List ℕ)) → IsSortedBy below ss → AreApart ss → AreInOrder ss
strictly [] up a = tt
strictly (s ∷ ss) up a = (
  each ss (λ k d lt. sorted_far below (ranks_by nat_list_cmp_total sized) (s ∷ ss) up 0 (suc k) d (omega arith) (omega (arith, lt))) a.0,
  strictly ss (λ k d low high. let e : suc k + 1 ≡ suc (k + 1) = omega arith in subst (λ (n : ℕ). below (get_or (s ∷ ss) n d) (get_or ss k d) ≡ false) e (up (suc k) d (omega arith) (omega (arith, high)))) a.1,
)
  where
    each : (ms : List (List ℕ)) → ((k : ℕ) (d : List ℕ) → k < length ms → below (get_or ms k d) s ≡ false) → list_all (differ s) ms ≡ true → list_all (below s) ms ≡ true
    each [] h e = refl
    each (m ∷ ms) h e =
        and_both (below s m) (list_all (below s) ms) (later_less s m (h 0 m (omega arith)) (and_first (differ s m) (list_all (differ s) ms) e))
        (each ms (λ k d lt. h (suc k) d (omega (arith, lt))) (and_second (differ s m) (list_all (differ s) ms) e))
