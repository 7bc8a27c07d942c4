-- What holds of the changes between two lists.
use Rattle.std.proofs.Common.{◌≡◌, ◌≢◌, ℕ, zero, suc, ◌⊎◌, inl, inr, true, false, List, [], ◌∷◌, ◌++◌, map, flat_map, refl, sym, ap, ◌∙◌, subst, append_assoc, arith}
use Rattle.std.specs.Prelude.{All, Contains}
use Rattle.std.specs.List.{AllByRecursion}
use Rattle.std.specs.List.Sorted.{IsPermutation}
use Rattle.std.specs.Ordering.{is_eq}
use Rattle.std.specs.declared.cmp.Ordering.{Ordering}
use Rattle.std.specs.declared.cmp.Ordering.TheVariants.{Less, Equal, Greater}
use Rattle.std.proofs.lemmas.Cmp.{tied_itself}
use Rattle.std.proofs.lemmas.Grind.{flat_map-append}
use Rattle.std.proofs.lemmas.List.{append-nil, map-append}
use Rattle.std.proofs.lemmas.List.Elements.{All-from_recursion}
use Rattle.std.proofs.lemmas.List.Sorted.{IsPermutation-refl, IsPermutation-sym, IsPermutation-trans, IsPermutation-map, IsPermutation-append_right, IsPermutation-append_comm, Contains-permutation, All-permutation}
use Rattle.package_changes.specs.declared.changes.likeness.Likeness.{Likeness}
use Rattle.package_changes.specs.declared.changes.likeness.Likeness.TheVariants as likeness
use Rattle.package_changes.specs.Rows.{Row, ChangeRow, stayed, went, came}
use Rattle.package_changes.specs.Order.{front_cmp, row_cmp, change_cmp, in_order}
use Rattle.package_changes.specs.Pairing.{Paired, is_like, pair_all, paired_by, step, unpaired, paired, stayed_of, told, changes}
use Rattle.package_changes.specs.Laws.{old_of, new_of, HasOneName, IsNone, turned, TellsEach, AreChanges}
use Rattle.package_changes.proofs.Sorting.{order_rises, order_moved, order_same}
use Rattle.package_changes.proofs.Orders.{front_total, row_total, row_same, like_name, rises_front}
use Rattle.package_changes.proofs.Matching.{olds, news, old_once, new_once, pairs_alike, left_apart, self_paired, swapped, swaps, order_given}

-- ---- each is told once

old_step : (l : Likeness) (p : Paired Row) → IsPermutation (olds p) (olds (step l p))
old_step l p =
    let sorted = in_order (row_cmp l) p.old in
    let q = paired_by l p in
    let firsts : List (Row × Row) → List Row = λ ps. map (λ (pair : Row × Row). pair.0) ps in
    let joined : (firsts p.pairs ++ olds q) ≡ olds (step l p) = sym (append_assoc (firsts p.pairs) (firsts q.pairs) q.old) ∙ ap (λ (rs : List Row). rs ++ q.old) (sym (map-append (λ (pair : Row × Row). pair.0) p.pairs q.pairs)) in
    subst (λ (rs : List Row). IsPermutation (olds p) rs) joined
    (IsPermutation-append_right (firsts p.pairs) p.old (olds q) (IsPermutation-trans p.old sorted (olds q) (order_moved (row_cmp l) p.old) (old_once (is_like l) sorted (in_order (row_cmp l) p.new))))

new_step : (l : Likeness) (p : Paired Row) → IsPermutation (news p) (news (step l p))
new_step l p =
    let sorted = in_order (row_cmp l) p.new in
    let q = paired_by l p in
    let seconds : List (Row × Row) → List Row = λ ps. map (λ (pair : Row × Row). pair.1) ps in
    let joined : (seconds p.pairs ++ news q) ≡ news (step l p) = sym (append_assoc (seconds p.pairs) (seconds q.pairs) q.new) ∙ ap (λ (rs : List Row). rs ++ q.new) (sym (map-append (λ (pair : Row × Row). pair.1) p.pairs q.pairs)) in
    subst (λ (rs : List Row). IsPermutation (news p) rs) joined
    (IsPermutation-append_right (seconds p.pairs) p.new (news q) (IsPermutation-trans p.new sorted (news q) (order_moved (row_cmp l) p.new) (new_once (is_like l) (in_order (row_cmp l) p.old) sorted)))

-- what is kept by each step is kept by all
all_steps : (R : Paired Row → Paired Row → Type 0) → ((p q r : Paired Row) → R p q → R q r → R p r) → ((l : Likeness) (p : Paired Row) → R p (step l p)) → (olds news : List Row) → R (unpaired olds news) (paired olds news)
all_steps R trans one xs ys =
    let p = unpaired xs ys in
    let q = step likeness.Same p in
    let r = step likeness.Version q in
    let s = step likeness.License r in
    trans p q _ (one likeness.Same p) (trans q r _ (one likeness.Version q) (trans r s _ (one likeness.License r) (one likeness.Name s)))

old_told : (p : Paired Row) → flat_map old_of (told p) ≡ olds p
old_told p =
    flat_map-append old_of (map stayed_of p.pairs) (map went p.old ++ map came p.new)
    ∙ ap (λ (rs : List Row). rs ++ flat_map old_of (map went p.old ++ map came p.new)) (stays p.pairs)
    ∙ ap (λ (rs : List Row). map (λ (pair : Row × Row). pair.0) p.pairs ++ rs) (flat_map-append old_of (map went p.old) (map came p.new) ∙ ap (λ (rs : List Row). rs ++ flat_map old_of (map came p.new)) (goes p.old) ∙ ap (λ (rs : List Row). p.old ++ rs) (comes p.new) ∙ append-nil p.old)
  where
    stays : (ps : List (Row × Row)) → flat_map old_of (map stayed_of ps) ≡ map (λ (pair : Row × Row). pair.0) ps
    stays [] = refl
    stays (pair ∷ ps) = ap (λ (rs : List Row). pair.0 ∷ rs) (stays ps)

    goes : (rs : List Row) → flat_map old_of (map went rs) ≡ rs
    goes [] = refl
    goes (r ∷ rs) = ap (λ (qs : List Row). r ∷ qs) (goes rs)

    comes : (rs : List Row) → flat_map old_of (map came rs) ≡ []
    comes [] = refl
    comes (r ∷ rs) = comes rs

new_told : (p : Paired Row) → flat_map new_of (told p) ≡ news p
new_told p =
    flat_map-append new_of (map stayed_of p.pairs) (map went p.old ++ map came p.new)
    ∙ ap (λ (rs : List Row). rs ++ flat_map new_of (map went p.old ++ map came p.new)) (stays p.pairs)
    ∙ ap (λ (rs : List Row). map (λ (pair : Row × Row). pair.1) p.pairs ++ rs) (flat_map-append new_of (map went p.old) (map came p.new) ∙ ap (λ (rs : List Row). rs ++ flat_map new_of (map came p.new)) (goes p.old) ∙ comes p.new)
  where
    stays : (ps : List (Row × Row)) → flat_map new_of (map stayed_of ps) ≡ map (λ (pair : Row × Row). pair.1) ps
    stays [] = refl
    stays (pair ∷ ps) = ap (λ (rs : List Row). pair.1 ∷ rs) (stays ps)

    goes : (rs : List Row) → flat_map new_of (map went rs) ≡ []
    goes [] = refl
    goes (r ∷ rs) = goes rs

    comes : (rs : List Row) → flat_map new_of (map came rs) ≡ rs
    comes [] = refl
    comes (r ∷ rs) = ap (λ (qs : List Row). r ∷ qs) (comes rs)

pub each : (old new : List Row) → TellsEach old new
each old new =
    let p = paired old new in
    let rows_old : IsPermutation old (flat_map old_of (told p)) = subst (λ (rs : List Row). IsPermutation old rs) (sym (old_told p))
    (all_steps (λ q r. IsPermutation (olds q) (olds r)) (λ q r s. IsPermutation-trans (olds q) (olds r) (olds s)) old_step old new) in
    let rows_new : IsPermutation new (flat_map new_of (told p)) = subst (λ (rs : List Row). IsPermutation new rs) (sym (new_told p))
    (all_steps (λ q r. IsPermutation (news q) (news r)) (λ q r s. IsPermutation-trans (news q) (news r) (news s)) new_step old new) in
    record {
      old_once = IsPermutation-trans old (flat_map old_of (told p)) (flat_map old_of (changes old new)) rows_old (order_given change_cmp old_of (told p));
      new_once = IsPermutation-trans new (flat_map new_of (told p)) (flat_map new_of (changes old new)) rows_new (order_given change_cmp new_of (told p));
    }

-- ---- what belongs together has one name

abbrev HaveOneName : Paired Row → Type 0
HaveOneName p = AllByRecursion (λ (pair : Row × Row). pair.0.name ≡ pair.1.name) p.pairs

all_append : {X : Type 0} (P : X → Type 0) (xs ys : List X) → AllByRecursion P xs → AllByRecursion P ys → AllByRecursion P (xs ++ ys)
all_append P [] ys g h = h
all_append P (x ∷ xs) ys g h = (g.0, all_append P xs ys g.1 h)

eq_is : (a : Ordering) → is_eq a ≡ true → a ≡ Equal
eq_is Less h = absurd (let bad : false ≡ true = h in cc)
eq_is Equal h = refl
eq_is Greater h = absurd (let bad : false ≡ true = h in cc)

names_step : (l : Likeness) (p : Paired Row) → HaveOneName p → HaveOneName (step l p)
names_step l p h =
    all_append (λ (pair : Row × Row). pair.0.name ≡ pair.1.name) p.pairs (paired_by l p).pairs h
    (weaker (paired_by l p).pairs (pairs_alike (is_like l) (in_order (row_cmp l) p.old) (in_order (row_cmp l) p.new)))
  where
    weaker : (ps : List (Row × Row)) → AllByRecursion (λ (pair : Row × Row). is_like l pair.0 pair.1 ≡ true) ps → AllByRecursion (λ (pair : Row × Row). pair.0.name ≡ pair.1.name) ps
    weaker [] g = tt
    weaker (pair ∷ ps) g = (like_name l pair.0 pair.1 (eq_is (front_cmp l pair.0 pair.1) g.0), weaker ps g.1)

all_told : (P : ChangeRow → Type 0) (p : Paired Row) → AllByRecursion (λ pair. P (stayed_of pair)) p.pairs → ((r : Row) → P (went r)) → ((r : Row) → P (came r)) → AllByRecursion P (told p)
all_told P p h old new =
    all_append P (map stayed_of p.pairs) (map went p.old ++ map came p.new) (stays p.pairs h) (all_append P (map went p.old) (map came p.new) (goes p.old) (comes p.new))
  where
    stays : (ps : List (Row × Row)) → AllByRecursion (λ pair. P (stayed_of pair)) ps → AllByRecursion P (map stayed_of ps)
    stays [] g = tt
    stays (pair ∷ ps) g = (g.0, stays ps g.1)

    goes : (rs : List Row) → AllByRecursion P (map went rs)
    goes [] = tt
    goes (r ∷ rs) = (old r, goes rs)

    comes : (rs : List Row) → AllByRecursion P (map came rs)
    comes [] = tt
    comes (r ∷ rs) = (new r, comes rs)

pub names : (old new : List Row) → All HasOneName (changes old new)
names old new =
    let p = paired old new in
    let have : HaveOneName (unpaired old new) → HaveOneName p = all_steps (λ q r. HaveOneName q → HaveOneName r) (λ q r s f g h. g (f h)) names_step old new in
    All-permutation HasOneName (told p) (changes old new) (order_moved change_cmp (told p)) (All-from_recursion HasOneName (told p) (all_told HasOneName p (have tt) (λ r. tt) (λ r. tt)))

-- ---- of what went no other version came

-- the row that a change is of, if it is of that kind
abbrev WentOf : Row → ChangeRow → Type 0
WentOf r (stayed old new) = ⊥
WentOf r (went old) = old ≡ r
WentOf r (came new) = ⊥

abbrev CameOf : Row → ChangeRow → Type 0
CameOf r (stayed old new) = ⊥
CameOf r (went old) = ⊥
CameOf r (came new) = new ≡ r

-- one of these passes
abbrev Some_of : {X : Type 0} → (X → Type 0) → List X → Type 0
Some_of P [] = ⊥
Some_of P (x ∷ xs) = P x ⊎ Some_of P xs

some_from : {X : Type 0} (xs : List X) (x : X) (P : X → Type 0) → P x → Contains xs x → Some_of P xs
some_from [] x P h found = absurd (omega (arith, found.1))
some_from (y ∷ ys) x P h (zero, low, at) = inl (subst P (sym at) h)
some_from (y ∷ ys) x P h (suc k, low, at) = inr (some_from ys x P h (k, omega (arith, low), at))

some_append : {X : Type 0} (P : X → Type 0) (xs ys : List X) → Some_of P (xs ++ ys) → Some_of P xs ⊎ Some_of P ys
some_append P [] ys h = inr h
some_append P (x ∷ xs) ys (inl h) = inl (inl h)
some_append {X} P (x ∷ xs) ys (inr h) = cases (some_append P xs ys h)
  where
    cases : Some_of P xs ⊎ Some_of P ys → (P x ⊎ Some_of P xs) ⊎ Some_of P ys
    cases (inl g) = inl (inr g)
    cases (inr g) = inr g

no_some : {X : Type 0} {Y : Type 0} (f : X → Y) (P : Y → Type 0) → ((x : X) → P (f x) → ⊥) → (xs : List X) → Some_of P (map f xs) → ⊥
no_some f P not [] h = h
no_some f P not (x ∷ xs) (inl h) = not x h
no_some f P not (x ∷ xs) (inr h) = no_some f P not xs h

picked : (f : Row → ChangeRow) (P : ChangeRow → Type 0) (r : Row) (Q : Row → Type 0) → ((x : Row) → P (f x) → x ≡ r) → (xs : List Row) → AllByRecursion Q xs → Some_of P (map f xs) → Q r
picked f P r Q is [] all h = elim h [ ]
picked f P r Q is (x ∷ xs) all (inl h) = subst Q (is x h) all.0
picked f P r Q is (x ∷ xs) all (inr h) = picked f P r Q is xs all.1 h

went_passes : (p : Paired Row) (r : Row) (Q : Row → Type 0) → AllByRecursion Q p.old → Some_of (WentOf r) (told p) → Q r
went_passes p r Q all h = first (some_append (WentOf r) (map stayed_of p.pairs) (map went p.old ++ map came p.new) h)
  where
    second : Some_of (WentOf r) (map went p.old) ⊎ Some_of (WentOf r) (map came p.new) → Q r
    second (inl g) = picked went (WentOf r) r Q (λ x e. e) p.old all g
    second (inr g) = absurd (no_some came (WentOf r) (λ x e. e) p.new g)

    first : Some_of (WentOf r) (map stayed_of p.pairs) ⊎ Some_of (WentOf r) (map went p.old ++ map came p.new) → Q r
    first (inl g) = absurd (no_some stayed_of (WentOf r) (λ x e. e) p.pairs g)
    first (inr g) = second (some_append (WentOf r) (map went p.old) (map came p.new) g)

came_passes : (p : Paired Row) (r : Row) (Q : Row → Type 0) → AllByRecursion Q p.new → Some_of (CameOf r) (told p) → Q r
came_passes p r Q all h = first (some_append (CameOf r) (map stayed_of p.pairs) (map went p.old ++ map came p.new) h)
  where
    second : Some_of (CameOf r) (map went p.old) ⊎ Some_of (CameOf r) (map came p.new) → Q r
    second (inl g) = absurd (no_some went (CameOf r) (λ x e. e) p.old g)
    second (inr g) = picked came (CameOf r) r Q (λ x e. e) p.new all g

    first : Some_of (CameOf r) (map stayed_of p.pairs) ⊎ Some_of (CameOf r) (map went p.old ++ map came p.new) → Q r
    first (inl g) = absurd (no_some stayed_of (CameOf r) (λ x e. e) p.pairs g)
    first (inr g) = second (some_append (CameOf r) (map went p.old) (map came p.new) g)

name_apart : (r s : Row) → is_like likeness.Name r s ≡ false → r.name ≢ s.name
name_apart r s h e =
    let same : is_like likeness.Name r s ≡ true = ap (λ (n : List ℕ). is_eq (front_cmp likeness.Name r (record { name = n; version = s.version; license = s.license }))) (sym e) ∙ ap is_eq (tied_itself (front_total likeness.Name) r) in
    absurd (let bad : false ≡ true = sym h ∙ same in cc)

pub apart : (old new : List Row) (r s : Row) → Contains (changes old new) (went r) → Contains (changes old new) (came s) → r.name ≢ s.name
apart old new r s gone here =
    let p = step likeness.License (step likeness.Version (step likeness.Same (unpaired old new))) in
    let q = paired old new in
    let back = IsPermutation-sym (told q) (changes old new) (order_moved change_cmp (told q)) in
    let all = left_apart (is_like likeness.Name) (in_order (row_cmp likeness.Name) p.old) (in_order (row_cmp likeness.Name) p.new) in
    let olds_apart = went_passes q r (λ x. AllByRecursion (λ y. is_like likeness.Name x y ≡ false) q.new) all (some_from (told q) (went r) (WentOf r) refl (Contains-permutation (changes old new) (told q) (went r) back gone)) in
    name_apart r s (came_passes q s (λ y. is_like likeness.Name r y ≡ false) olds_apart (some_from (told q) (came s) (CameOf s) refl (Contains-permutation (changes old new) (told q) (came s) back here)))

-- ---- in whichever order they stand

pub order : (old new olds news : List Row) → IsPermutation old olds → IsPermutation new news → changes olds news ≡ changes old new
order old new olds news moved moved_too =
    let by = row_cmp likeness.Same in
    let start : List Row → List Row → List ChangeRow = λ xs ys.
    let q = pair_all (is_like likeness.Same) xs ys in
    in_order change_cmp (told (step likeness.Name (step likeness.License (step likeness.Version (record { pairs = q.pairs; old = q.old; new = q.new }))))) in
    ap (λ (xs : List Row). start xs (in_order by news)) (order_same by (row_total likeness.Same) (row_same likeness.Same) old olds moved)
    ∙ ap (λ (ys : List Row). start (in_order by old) ys) (order_same by (row_total likeness.Same) (row_same likeness.Same) new news moved_too)

-- ---- where the lists have the same packages

all_itself : (old : List Row) → paired old old ≡ record { pairs = map (λ (r : Row). (r, r)) (in_order (row_cmp likeness.Same) old); old = []; new = [] }
all_itself old =
    let sorted = in_order (row_cmp likeness.Same) old in
    let pairs = map (λ (r : Row). (r, r)) sorted in
    let first : step likeness.Same (unpaired old old) ≡ record { pairs = map (λ (r : Row). (r, r)) sorted; old = []; new = [] } = self_paired (is_like likeness.Same) sorted (λ r. ap is_eq (tied_itself (front_total likeness.Same) r)) in
    ap (λ (p : Paired Row). step likeness.Name (step likeness.License (step likeness.Version p))) first
    ∙ ap (λ (p : Paired Row). step likeness.Name (step likeness.License p)) (idle likeness.Version pairs)
    ∙ ap (step likeness.Name) (idle likeness.License pairs)
    ∙ idle likeness.Name pairs
  where
    idle : (l : Likeness) (pairs : List (Row × Row)) → step l (record { pairs = pairs; old = []; new = [] }) ≡ record { pairs = pairs; old = []; new = [] }
    idle l pairs = ap (λ (ps : List (Row × Row)). record { pairs = ps; old = []; new = [] }) (append-nil pairs)

-- ---- the other way round

swap_step : (l : Likeness) (p : Paired Row) → step l (swapped p) ≡ swapped (step l p)
swap_step l p =
    let xs = in_order (row_cmp l) p.old in
    let ys = in_order (row_cmp l) p.new in
    let flip : Row × Row → Row × Row = λ pair. (pair.1, pair.0) in
    let after : Paired Row → Paired Row = λ q. record { pairs = map flip p.pairs ++ q.pairs; old = q.old; new = q.new } in
    let q = pair_all (is_like l) xs ys in
    let made : List (Row × Row) → Paired Row = λ ps. record { pairs = ps; old = q.new; new = q.old } in
    ap after (swaps (front_cmp l) (front_total l) xs ys (rises_front l xs (order_rises (row_cmp l) (row_total l) p.old)) (rises_front l ys (order_rises (row_cmp l) (row_total l) p.new)))
    ∙ ap made (sym (map-append flip p.pairs q.pairs))

swap_paired : (old new : List Row) → paired new old ≡ swapped (paired old new)
swap_paired old new =
    let p = unpaired old new in
    let q = step likeness.Same p in
    let r = step likeness.Version q in
    let s = step likeness.License r in
    ap (λ t. step likeness.Name (step likeness.License (step likeness.Version t))) (swap_step likeness.Same p)
    ∙ ap (λ t. step likeness.Name (step likeness.License t)) (swap_step likeness.Version q)
    ∙ ap (step likeness.Name) (swap_step likeness.License r)
    ∙ swap_step likeness.Name s

turned_told : (p : Paired Row) → map turned (told p) ≡ map stayed_of (swapped p).pairs ++ (map came p.old ++ map went p.new)
turned_told p =
    map-append turned (map stayed_of p.pairs) (map went p.old ++ map came p.new)
    ∙ ap (λ (cs : List ChangeRow). cs ++ map turned (map went p.old ++ map came p.new)) (stays p.pairs)
    ∙ ap (λ (cs : List ChangeRow). map stayed_of (swapped p).pairs ++ cs) (map-append turned (map went p.old) (map came p.new) ∙ ap (λ (cs : List ChangeRow). cs ++ map turned (map came p.new)) (goes p.old) ∙ ap (λ (cs : List ChangeRow). map came p.old ++ cs) (comes p.new))
  where
    stays : (ps : List (Row × Row)) → map turned (map stayed_of ps) ≡ map stayed_of (map (λ (pair : Row × Row). (pair.1, pair.0)) ps)
    stays [] = refl
    stays (pair ∷ ps) = ap (λ (cs : List ChangeRow). stayed pair.1 pair.0 ∷ cs) (stays ps)

    goes : (rs : List Row) → map turned (map went rs) ≡ map came rs
    goes [] = refl
    goes (r ∷ rs) = ap (λ (cs : List ChangeRow). came r ∷ cs) (goes rs)

    comes : (rs : List Row) → map turned (map came rs) ≡ map went rs
    comes [] = refl
    comes (r ∷ rs) = ap (λ (cs : List ChangeRow). went r ∷ cs) (comes rs)

pub back : (old new : List Row) → IsPermutation (map turned (changes old new)) (changes new old)
back old new =
    let p = paired old new in
    let stays = map stayed_of (swapped p).pairs in
    let first : IsPermutation (map turned (changes old new)) (map turned (told p)) = IsPermutation-map turned (changes old new) (told p) (IsPermutation-sym (told p) (changes old new) (order_moved change_cmp (told p))) in
    let second : IsPermutation (map turned (told p)) (told (swapped p)) = subst (λ (cs : List ChangeRow). IsPermutation cs (told (swapped p))) (sym (turned_told p))
    (IsPermutation-append_right stays (map came p.old ++ map went p.new) (map went p.new ++ map came p.old) (IsPermutation-append_comm (map came p.old) (map went p.new))) in
    let third : IsPermutation (told (swapped p)) (changes new old) = subst (λ (q : Paired Row). IsPermutation (told q) (changes new old)) (swap_paired old new) (order_moved change_cmp (told (paired new old))) in
    IsPermutation-trans (map turned (changes old new)) (map turned (told p)) (changes new old) first (IsPermutation-trans (map turned (told p)) (told (swapped p)) (changes new old) second third)

-- ---- all of it

itself : (old : List Row) → All IsNone (changes old old)
itself old =
    let ps = map (λ (r : Row). (r, r)) (in_order (row_cmp likeness.Same) old) in
    let p : Paired Row = record { pairs = ps; old = []; new = [] } in
    let none : All IsNone (told p) = All-from_recursion IsNone (told p) (all_append IsNone (map stayed_of ps) [] (alike (in_order (row_cmp likeness.Same) old)) tt) in
    All-permutation IsNone (told (paired old old)) (changes old old) (order_moved change_cmp (told (paired old old))) (subst (λ (q : Paired Row). All IsNone (told q)) (sym (all_itself old)) none)
  where
    alike : (rs : List Row) → AllByRecursion IsNone (map stayed_of (map (λ (r : Row). (r, r)) rs))
    alike [] = tt
    alike (r ∷ rs) = (refl, alike rs)

pub are_changes : (old new : List Row) → AreChanges old new
are_changes old new = record {
  each = each old new;
  names = names old new;
  apart = apart old new;
  order = order old new;
  same = λ moved. subst (λ (cs : List ChangeRow). All IsNone cs) (sym (order old old old new (IsPermutation-refl old) moved)) (itself old);
  back = back old new;
}
