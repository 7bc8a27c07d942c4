-- Lists of sets in order that say the same are the same.
use Rattle.std.proofs.Common.{◌≡◌, ℕ, suc, ◌+◌, ◌<◌, ◌≤◌, Bool, true, false, ◌||◌, List, [], ◌∷◌, length, get_or, refl, sym, ◌∙◌, ap, subst, inl, inr, arith, All}
use Rattle.std.specs.Prelude.{not, ◌==◌, bytes_eq}
use Rattle.std.specs.List.{list_any, list_all}
use Rattle.std.specs.List.Sorted.{IsStrictlyIncreasing}
use Rattle.std.specs.Ordering.{is_lt, ordering_reverse}
use Rattle.std.specs.declared.cmp.Ordering.{Ordering}
use Rattle.std.specs.declared.cmp.Ordering.TheVariants.{Less, Equal, Greater}
use Rattle.std.proofs.lemmas.Bool.{eq-eqb, cases_lt, cases_order}
use Rattle.std.proofs.lemmas.Bool.Decides.{nat_tests}
use Rattle.std.proofs.lemmas.Cmp.{nat_list_cmp_total}
use Rattle.std.proofs.lemmas.List.Elements.{All-head, All-tail}
use Rattle.std.proofs.lemmas.Slice.Eq.{bytes_eq-Decides}
use Rattle.selections.specs.Sets.{is_in, includes, differ, met_by, AreApart}
use Rattle.selections.specs.Order.{set_cmp, below, AreInOrder}
use Rattle.selections.proofs.Means.{same_truth, either_way, or_left, or_right, some_passes, in_passes, included_passes, and_first, and_second, turned_back}
use Rattle.selections.proofs.Ordered.{itself, sized}

-- ---- rising numbers

-- each number is above those before it, and none is below the first bound
abbrev rises : ℕ → List ℕ → Type 0
rises low [] = Unit {0}
rises low (x ∷ xs) = (low ≤ x) × rises (x + 1) xs

differs : (a b : ℕ) → a < b → (b == a) ≡ false
differs a b h = grind (arith, nat_tests, h)

differs_up : (a b : ℕ) → a < b → (a == b) ≡ false
differs_up a b h = grind (arith, nat_tests, h)

not_in : (p low : ℕ) (xs : List ℕ) → p < low → rises low xs → is_in xs p ≡ false
not_in p low [] h r = refl
not_in p low (x ∷ xs) h r = let far : p < x = omega (arith, r.0) in ap (λ (b : Bool). b || is_in xs p) (differs p x far) ∙ not_in p (x + 1) xs (omega arith) r.1

head_in : (x : ℕ) (xs : List ℕ) → is_in (x ∷ xs) x ≡ true
head_in x xs = ap (λ (b : Bool). b || is_in xs x) (eq-eqb x x refl)

-- a number that is in the one list and below all of the other
alone : (x y : ℕ) (xs ys : List ℕ) → x < y → rises (y + 1) ys → is_in (x ∷ xs) x ≡ is_in (y ∷ ys) x → ⊥
alone x y xs ys h r e =
    let all : rises y (y ∷ ys) = (omega arith, r) in
    let bad : true ≡ false = sym (head_in x xs) ∙ e ∙ not_in x y (y ∷ ys) h all in
    cc

tails : (x p : ℕ) (xs ys : List ℕ) → rises (x + 1) xs → rises (x + 1) ys → is_in (x ∷ xs) p ≡ is_in (x ∷ ys) p → is_in xs p ≡ is_in ys p
tails x p xs ys r s e = elim (cases_lt x p) [
  | inl above ↦
      let no : (x == p) ≡ false = differs_up x p above in
      sym (ap (λ (b : Bool). b || is_in xs p) no) ∙ e ∙ ap (λ (b : Bool). b || is_in ys p) no
  | inr under ↦ let less : p < x + 1 = omega arith in not_in p (x + 1) xs less r ∙ sym (not_in p (x + 1) ys less s)
]

rising_same : (a b : ℕ) (xs ys : List ℕ) → rises a xs → rises b ys → ((p : ℕ) → is_in xs p ≡ is_in ys p) → xs ≡ ys
rising_same a b [] [] r s e = refl
rising_same a b [] (y ∷ ys) r s e = let bad : false ≡ true = e y ∙ head_in y ys in cc
rising_same a b (x ∷ xs) [] r s e = let bad : true ≡ false = sym (head_in x xs) ∙ e x in cc
rising_same a b (x ∷ xs) (y ∷ ys) r s e = elim (cases_order x y) [
  | inl same ↦
      let s' : rises (x + 1) ys = subst (λ (n : ℕ). rises (n + 1) ys) (sym same) s.1 in
      let each : (p : ℕ) → is_in xs p ≡ is_in ys p = λ p. tails x p xs ys r.1 s' (e p ∙ ap (λ (n : ℕ). is_in (n ∷ ys) p) (sym same)) in
      ap (λ (n : ℕ). n ∷ xs) same ∙ ap (λ (zs : List ℕ). y ∷ zs) (rising_same (x + 1) (x + 1) xs ys r.1 s' each)
  | inr other ↦ elim other [
    | inl less ↦ absurd (alone x y xs ys less s.1 (e x))
    | inr more ↦ absurd (alone y x ys xs more r.1 (sym (e y)))
  ]
]

rising_from : (xs : List ℕ) (low : ℕ) → (0 < length xs → low ≤ get_or xs 0 0) → ((k : ℕ) → k + 1 < length xs → get_or xs k 0 < get_or xs (k + 1) 0) → rises low xs
rising_from [] low h inc = tt
rising_from (x ∷ xs) low h inc =
    let later : (k : ℕ) → k + 1 < length xs → get_or xs k 0 < get_or xs (k + 1) 0 = λ k lt. let e : suc k + 1 ≡ suc (k + 1) = omega arith in subst (λ (n : ℕ). get_or (x ∷ xs) (suc k) 0 < get_or (x ∷ xs) n 0) e (inc (suc k) (omega arith)) in
    let first : 0 < length xs → x + 1 ≤ get_or xs 0 0 = λ lt. let up : x < get_or xs 0 0 = inc 0 (omega arith) in omega arith in
    (h (omega arith), rising_from xs (x + 1) first later)

-- rising lists that include each other are the same
each_other : (s m : List ℕ) → IsStrictlyIncreasing s → IsStrictlyIncreasing m → includes s m ≡ true → includes m s ≡ true → s ≡ m
each_other s m r q a b =
    rising_same 0 0 s m (rising_from s 0 (λ h. omega arith) r) (rising_from m 0 (λ h. omega arith) q)
    (λ p. same_truth (is_in s p) (is_in m p) (in_passes (is_in m) s p b) (in_passes (is_in s) m p a))

-- ---- members

-- whether the set is one of some
abbrev member : List ℕ → List (List ℕ) → Bool
member s sets = list_any (bytes_eq s) sets

is_same : (s m : List ℕ) → bytes_eq s m ≡ true → s ≡ m
is_same s m e = (bytes_eq-Decides s m).0 e

same_is : (s : List ℕ) → bytes_eq s s ≡ true
same_is s = (bytes_eq-Decides s s).1 refl

-- what holds of all holds of a member
of_all : (q : List ℕ → Bool) (sets : List (List ℕ)) (s : List ℕ) → list_all q sets ≡ true → member s sets ≡ true → q s ≡ true
of_all q sets s all there =
    let one = some_passes (bytes_eq s) sets there in
    ap q (is_same s one.0 one.1) ∙ one.3 q all

rise_of : (sets : List (List ℕ)) (s : List ℕ) → All IsStrictlyIncreasing sets → member s sets ≡ true → IsStrictlyIncreasing s
rise_of [] s all there = let bad : false ≡ true = there in cc
rise_of (x ∷ xs) s all there = elim (either_way (bytes_eq s x) (member s xs) there) [
  | inl e ↦ subst IsStrictlyIncreasing (sym (is_same s x e)) (All-head IsStrictlyIncreasing x xs all)
  | inr h ↦ rise_of xs s (All-tail IsStrictlyIncreasing x xs all) h
]

no_inclusion : (s m : List ℕ) → differ s m ≡ true → includes s m ≡ true → ⊥
no_inclusion s m d e = let bad : true ≡ false = sym e ∙ turned_back (includes s m) (and_first (not (includes s m)) (not (includes m s)) d) in cc

no_inclusion_back : (s m : List ℕ) → differ s m ≡ true → includes m s ≡ true → ⊥
no_inclusion_back s m d e = let bad : true ≡ false = sym e ∙ turned_back (includes m s) (and_second (not (includes s m)) (not (includes m s)) d) in cc

-- of two members neither includes the other, unless they are the same
apart_same : (sets : List (List ℕ)) (s m : List ℕ) → AreApart sets → member s sets ≡ true → member m sets ≡ true → includes s m ≡ true → s ≡ m
apart_same [] s m a s_in m_in e = let bad : false ≡ true = s_in in cc
apart_same (x ∷ xs) s m a s_in m_in e = elim (either_way (bytes_eq s x) (member s xs) s_in) [
  | inl h ↦ elim (either_way (bytes_eq m x) (member m xs) m_in) [
    | inl k ↦ is_same s x h ∙ sym (is_same m x k)
    | inr k ↦ absurd (no_inclusion x m (of_all (differ x) xs m a.0 k) (subst (λ (z : List ℕ). includes z m ≡ true) (is_same s x h) e))
  ]
  | inr h ↦ elim (either_way (bytes_eq m x) (member m xs) m_in) [
    | inl k ↦ absurd (no_inclusion_back x s (of_all (differ x) xs s a.0 h) (subst (λ (z : List ℕ). includes s z ≡ true) (is_same m x k) e))
    | inr k ↦ apart_same xs s m a.1 h k e
  ]
]

-- a set that some sets say includes one of them
included : (sets : List (List ℕ)) (s : List ℕ) → met_by (is_in s) sets ≡ true → (m : List ℕ) × (includes s m ≡ true) × (member m sets ≡ true)
included sets s e = let one = some_passes (list_all (is_in s)) sets e in (one.0, one.1, one.2 (bytes_eq one.0) (same_is one.0))

met_itself : (sets : List (List ℕ)) (s : List ℕ) → member s sets ≡ true → met_by (is_in s) sets ≡ true
met_itself sets s there =
    let one = some_passes (bytes_eq s) sets there in
    one.2 (list_all (is_in s)) (subst (λ (z : List ℕ). includes s z ≡ true) (is_same s one.0 one.1) (itself s))

member_of_other : (xs ys : List (List ℕ)) → ((p : ℕ → Bool) → met_by p xs ≡ met_by p ys) → AreApart xs → All IsStrictlyIncreasing xs → All IsStrictlyIncreasing ys
    → (s : List ℕ) → member s xs ≡ true → member s ys ≡ true
member_of_other xs ys same apart rise rise' s there =
    let other = included ys s (sym (same (is_in s)) ∙ met_itself xs s there) in
    let m = other.0 in
    let back = included xs m (same (is_in m) ∙ met_itself ys m other.2) in
    let all : includes s back.0 ≡ true = included_passes (is_in s) m back.0 back.1 other.1 in
    let is : s ≡ back.0 = apart_same xs s back.0 apart there back.2 all in
    let turned : includes m s ≡ true = subst (λ (z : List ℕ). includes m z ≡ true) (sym is) back.1 in
    let equal : s ≡ m = each_other s m (rise_of xs s rise there) (rise_of ys m rise' other.2) other.1 turned in
    subst (λ (z : List ℕ). member z ys ≡ true) (sym equal) other.2

-- ---- lists in order

one_way : (s m : List ℕ) → below s m ≡ true → below m s ≡ true → ⊥
one_way s m e h = cases (set_cmp s m) refl
  where
    cases : (o : Ordering) → set_cmp s m ≡ o → ⊥
    cases Less k =
        let back : set_cmp m s ≡ Greater = nat_list_cmp_total.antisymm (sized m) (sized s) ∙ ap ordering_reverse k in
        let bad : true ≡ false = sym h ∙ ap is_lt back in
        cc
    cases Equal k = let bad : true ≡ false = sym e ∙ ap is_lt k in cc
    cases Greater k = let bad : true ≡ false = sym e ∙ ap is_lt k in cc

-- a member of the rest is none of the first
other_than : (x : List ℕ) (xs : List (List ℕ)) (s : List ℕ) → list_all (below x) xs ≡ true → member s xs ≡ true → bytes_eq s x ≡ true → ⊥
other_than x xs s up there e =
    let less : below x x ≡ true = subst (λ (z : List ℕ). below x z ≡ true) (is_same s x e) (of_all (below x) xs s up there) in
    one_way x x less less

first_same : (x y : List ℕ) (xs ys : List (List ℕ)) → list_all (below x) xs ≡ true → list_all (below y) ys ≡ true → member x (y ∷ ys) ≡ true → member y (x ∷ xs) ≡ true → x ≡ y
first_same x y xs ys up up' a b = elim (either_way (bytes_eq x y) (member x ys) a) [
  | inl e ↦ is_same x y e
  | inr h ↦ elim (either_way (bytes_eq y x) (member y xs) b) [
    | inl e ↦ sym (is_same y x e)
    | inr k ↦ absurd (one_way x y (of_all (below x) xs y up k) (of_all (below y) ys x up' h))
  ]
]

rest_in : (x : List ℕ) (xs ys : List (List ℕ)) → list_all (below x) xs ≡ true → ((s : List ℕ) → member s (x ∷ xs) ≡ true → member s (x ∷ ys) ≡ true) → (s : List ℕ) → member s xs ≡ true → member s ys ≡ true
rest_in x xs ys up forth s there = elim (either_way (bytes_eq s x) (member s ys) (forth s (or_right (bytes_eq s x) (member s xs) there))) [
  | inl e ↦ absurd (other_than x xs s up there e)
  | inr h ↦ h
]

first_in : (x : List ℕ) (xs : List (List ℕ)) → member x (x ∷ xs) ≡ true
first_in x xs = or_left (bytes_eq x x) (member x xs) (same_is x)

same_lists : (xs ys : List (List ℕ)) → AreInOrder xs → AreInOrder ys → ((s : List ℕ) → member s xs ≡ true → member s ys ≡ true) → ((s : List ℕ) → member s ys ≡ true → member s xs ≡ true) → xs ≡ ys
same_lists [] [] r q forth back = refl
same_lists [] (y ∷ ys) r q forth back = let bad : false ≡ true = back y (first_in y ys) in cc
same_lists (x ∷ xs) [] r q forth back = let bad : false ≡ true = forth x (first_in x xs) in cc
same_lists (x ∷ xs) (y ∷ ys) r q forth back =
    let is : x ≡ y = first_same x y xs ys r.0 q.0 (forth x (first_in x xs)) (back y (first_in y ys)) in
    let q' : list_all (below x) ys ≡ true = subst (λ (z : List ℕ). list_all (below z) ys ≡ true) (sym is) q.0 in
    let forth' : (s : List ℕ) → member s (x ∷ xs) ≡ true → member s (x ∷ ys) ≡ true = λ s h. subst (λ (z : List ℕ). member s (z ∷ ys) ≡ true) (sym is) (forth s h) in
    let back' : (s : List ℕ) → member s (x ∷ ys) ≡ true → member s (x ∷ xs) ≡ true = λ s h. back s (subst (λ (z : List ℕ). member s (z ∷ ys) ≡ true) is h) in
    ap (λ (z : List ℕ). z ∷ xs) is ∙ ap (λ (z : List (List ℕ)). y ∷ z) (same_lists xs ys r.1 q.1 (rest_in x xs ys r.0 forth') (rest_in x ys xs q' back'))

pub only_one : (xs ys : List (List ℕ)) → ((p : ℕ → Bool) → met_by p xs ≡ met_by p ys) → AreApart xs → AreApart ys → All IsStrictlyIncreasing xs → All IsStrictlyIncreasing ys → AreInOrder xs → AreInOrder ys → xs ≡ ys
only_one xs ys same a b r q u v =
    same_lists xs ys u v (member_of_other xs ys same a r q) (member_of_other ys xs (λ p. sym (same p)) b q r)
