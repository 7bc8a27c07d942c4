-- The places of the distinct licensees that satisfy a requirement of some tree are those for each requirement, in order
-- and without doubles.
use Rattle.std.proofs.Common.{◌≡◌, ℕ, zero, suc, ◌+◌, ◌<◌, ◌≤◌, ◌==◌, Bool, true, false, ◌||◌, cond, List, [], ◌∷◌, ◌++◌, length, take, drop, get_or, refl, sym, ◌∙◌, ap, subst, inl, inr, arith, append_assoc}
use Rattle.std.specs.List.{list_any, filter, flat_map}
use Rattle.std.specs.List.Sorted.{IsStrictlyIncreasing}
use Rattle.std.proofs.lemmas.List.{take_more, drop_more}
use Rattle.std.proofs.lemmas.List.Folds.{list_any-append}
use Rattle.std.proofs.lemmas.List.Elements.{filter-append}
use Rattle.std.proofs.Math.Dec.{eqb}
use Rattle.std.specs.List.Sorted.{IsPermutation, IsSorted}
use Rattle.std.specs.List.Retain.{IsFiltered, DiffersFromLast}
use Rattle.std.specs.List.{dedup}
use Rattle.std.specs.Ordering.{nat_cmp}
use Rattle.std.proofs.lemmas.Bool.{eq-eqb, cases_lt, cases_order}
use Rattle.std.proofs.lemmas.Bool.Decides.{nat_tests}
use Rattle.std.proofs.lemmas.List.Filters.{dedup_is}
use Rattle.std.proofs.lemmas.List.Kept.{Contains-dedup_nat, Contains-from_dedup}
use Rattle.std.proofs.lemmas.List.Sorted.{list_any-IsPermutation}
use Rattle.std.proofs.lemmas.Map.Keys.{IsStrictlyIncreasing-dedup}
use Rattle.spdx_minimize.proofs.Doubles.{some_same}
use Rattle.spdx_requirement.specs.Items.{Requirement}
use Rattle.spdx_requirement.specs.Equality.{same_requirement}
use Rattle.spdx_parser.specs.Tree.{Tree, leaves}
use Rattle.spdx_licensee.specs.Satisfies.{satisfies}
use Rattle.spdx_minimize.specs.Choice.{first_ones, satisfies_some, useful}
use Rattle.spdx_minimize.specs.FirstPlaces.{first_places_from, first_places, places_for, at_places}

-- whether the number is in the list
abbrev pub is_in : ℕ → List ℕ → Bool
is_in p xs = list_any (λ x. x == p) xs

-- ---- lists of rising numbers

-- each number is above those before it, and none is below the first bound
abbrev rises : ℕ → List ℕ → Type 0
rises low [] = Unit {0}
rises low (x ∷ xs) = (low ≤ x) × rises (x + 1) xs

lower : (a b : ℕ) (xs : List ℕ) → a ≤ b → rises b xs → rises a xs
lower a b [] h r = tt
lower a b (x ∷ xs) h r = (omega (arith, r.0), r.1)

differs : (a b : ℕ) → a < b → (b == a) ≡ false
differs a b h = grind (arith, nat_tests, h)

differs_up : (a b : ℕ) → a < b → (a == b) ≡ false
differs_up a b h = grind (arith, nat_tests, h)

not_in : (p low : ℕ) (xs : List ℕ) → p < low → rises low xs → is_in p xs ≡ false
not_in p low [] h r = refl
not_in p low (x ∷ xs) h r = let far : p < x = omega (arith, r.0) in ap (λ (b : Bool). b || is_in p xs) (differs p x far) ∙ not_in p (x + 1) xs (omega arith) r.1

head_in : (x : ℕ) (xs : List ℕ) → is_in x (x ∷ xs) ≡ true
head_in x xs = ap (λ (b : Bool). b || is_in x xs) (eq-eqb x x refl)

-- a number that is in the one list and below all of the other
apart : (x y : ℕ) (xs ys : List ℕ) → x < y → rises (y + 1) ys → is_in x (x ∷ xs) ≡ is_in x (y ∷ ys) → ⊥
apart x y xs ys h r e =
    let all : rises y (y ∷ ys) = (omega arith, r) in
    let bad : true ≡ false = sym (head_in x xs) ∙ e ∙ not_in x y (y ∷ ys) h all in
    cc

tails : (x p : ℕ) (xs ys : List ℕ) → rises (x + 1) xs → rises (x + 1) ys → is_in p (x ∷ xs) ≡ is_in p (x ∷ ys) → is_in p xs ≡ is_in p ys
tails x p xs ys r s e = elim (cases_lt x p) [
  | inl above ↦
      let no : (x == p) ≡ false = differs_up x p above in
      sym (ap (λ (b : Bool). b || is_in p xs) no) ∙ e ∙ ap (λ (b : Bool). b || is_in p ys) no
  | inr below ↦ let under : p < x + 1 = omega arith in not_in p (x + 1) xs under r ∙ sym (not_in p (x + 1) ys under s)
]

-- two lists of rising numbers with the same numbers are the same
rising_same : (a b : ℕ) (xs ys : List ℕ) → rises a xs → rises b ys → ((p : ℕ) → is_in p xs ≡ is_in p ys) → xs ≡ ys
rising_same a b [] [] r s e = refl
rising_same a b [] (y ∷ ys) r s e = let bad : false ≡ true = e y ∙ head_in y ys in cc
rising_same a b (x ∷ xs) [] r s e = let bad : true ≡ false = sym (head_in x xs) ∙ e x in cc
rising_same a b (x ∷ xs) (y ∷ ys) r s e = elim (cases_order x y) [
  | inl same ↦
      let s' : rises (x + 1) ys = subst (λ (n : ℕ). rises (n + 1) ys) (sym same) s.1 in
      let each : (p : ℕ) → is_in p xs ≡ is_in p ys = λ p. tails x p xs ys r.1 s' (e p ∙ ap (λ (n : ℕ). is_in p (n ∷ ys)) (sym same)) in
      ap (λ (n : ℕ). n ∷ xs) same ∙ ap (λ (zs : List ℕ). y ∷ zs) (rising_same (x + 1) (x + 1) xs ys r.1 s' each)
  | inr other ↦ elim other [
    | inl below ↦ absurd (apart x y xs ys below s.1 (e x))
    | inr above ↦ absurd (apart y x ys xs above r.1 (sym (e y)))
  ]
]

rising_from : (xs : List ℕ) (low : ℕ) → (0 < length xs → low ≤ get_or xs 0 0) → ((k : ℕ) → k + 1 < length xs → get_or xs k 0 < get_or xs (k + 1) 0) → rises low xs
rising_from [] low h inc = tt
rising_from (x ∷ xs) low h inc =
    let later : (k : ℕ) → k + 1 < length xs → get_or xs k 0 < get_or xs (k + 1) 0 = λ k lt. let e : suc k + 1 ≡ suc (k + 1) = omega arith in subst (λ (n : ℕ). get_or (x ∷ xs) (suc k) 0 < get_or (x ∷ xs) n 0) e (inc (suc k) (omega arith)) in
    let first : 0 < length xs → x + 1 ≤ get_or xs 0 0 = λ lt. let up : x < get_or xs 0 0 = inc 0 (omega arith) in omega arith in
    (h (omega arith), rising_from xs (x + 1) first later)

increasing_rises : (xs : List ℕ) → IsStrictlyIncreasing xs → rises 0 xs
increasing_rises xs inc = rising_from xs 0 (λ h. omega arith) inc

-- ---- the places of those that pass a test

module _ (test : Requirement → Bool) where
  places_rise : (k : ℕ) (before rest : List Requirement) → rises k (first_places_from test k before rest)
  places_rise k before [] = tt
  places_rise k before (r ∷ rs) =
      let more = first_places_from test (k + 1) (before ++ r ∷ []) rs in
      let there : rises (k + 1) more = places_rise (k + 1) (before ++ r ∷ []) rs in
      let weak : rises k more = lower k (k + 1) more (omega arith) there in
      elim (list_any (λ b. same_requirement b r) before) as (λ (seen : Bool). rises k (cond seen [] (cond (test r) (k ∷ []) []) ++ more)) [
        | true ↦ weak
        | false ↦ elim (test r) as (λ (kept : Bool). rises k (cond kept (k ∷ []) [] ++ more)) [ true ↦ (omega arith, there) | false ↦ weak ]
      ]

  at_both : (ls : List Requirement) (xs ys : List ℕ) → at_places ls (xs ++ ys) ≡ at_places ls xs ++ at_places ls ys
  at_both ls [] ys = refl
  at_both ls (x ∷ xs) ys = ap (λ (z : List Requirement). take 1 (drop x ls) ++ z) (at_both ls xs ys) ∙ sym (append_assoc (take 1 (drop x ls)) (at_places ls xs) (at_places ls ys))

  next : (r : Requirement) (rs ls : List Requirement) (k : ℕ) → drop k ls ≡ r ∷ rs → drop (k + 1) ls ≡ rs
  next r rs [] zero e = cc
  next r rs [] (suc k) e = cc
  next r rs (l ∷ ls) zero e = cc
  next r rs (l ∷ ls) (suc k) e = let n : suc k + 1 ≡ suc (k + 1) = omega arith in ap (λ (m : ℕ). drop m (l ∷ ls)) n ∙ next r rs ls k e

  -- at the places stand the distinct ones that pass
  at_first : (k : ℕ) (before rest ls : List Requirement) → drop k ls ≡ rest → at_places ls (first_places_from test k before rest) ≡ filter test (first_ones before rest)
  at_first k before [] ls e = refl
  at_first k before (r ∷ rs) ls e =
      let seen = list_any (λ b. same_requirement b r) before in
      let more = first_places_from test (k + 1) (before ++ r ∷ []) rs in
      let one : take 1 (drop k ls) ++ [] ≡ r ∷ [] = ap (λ (z : List Requirement). take 1 z ++ []) e in
      let here : at_places ls (cond seen [] (cond (test r) (k ∷ []) [])) ≡ filter test (cond seen [] (r ∷ [])) =
      elim seen as (λ (b : Bool). at_places ls (cond b [] (cond (test r) (k ∷ []) [])) ≡ filter test (cond b [] (r ∷ []))) [
        | true ↦ refl
        | false ↦ elim (test r) as (λ (b : Bool). at_places ls (cond b (k ∷ []) []) ≡ cond b (r ∷ []) []) [ true ↦ one | false ↦ refl ]
      ] in
      at_both ls (cond seen [] (cond (test r) (k ∷ []) [])) more
      ∙ ap (λ (z : List Requirement). z ++ at_places ls more) here
      ∙ ap (λ (z : List Requirement). filter test (cond seen [] (r ∷ [])) ++ z) (at_first (k + 1) (before ++ r ∷ []) rs ls (next r rs ls k e))
      ∙ sym (filter-append test (cond seen [] (r ∷ [])) (first_ones (before ++ r ∷ []) rs))

-- one licensee more
pub place_more : (test : Requirement → Bool) (ls : List Requirement) (i : ℕ) (d : Requirement) (old new all : List ℕ) → i < length ls
    → new ≡ old ++ cond (list_any (λ b. same_requirement b (get_or ls i d)) (take i ls)) [] (cond (test (get_or ls i d)) (i ∷ []) [])
    → old ++ first_places_from test i (take i ls) (drop i ls) ≡ all
    → new ++ first_places_from test (i + 1) (take (i + 1) ls) (drop (i + 1) ls) ≡ all
place_more test ls i d old new all lt made so_far =
    let one = get_or ls i d in
    let here = cond (list_any (λ b. same_requirement b one) (take i ls)) [] (cond (test one) (i ∷ []) []) in
    let more = first_places_from test (i + 1) (take i ls ++ one ∷ []) (drop (i + 1) ls) in
    ap (λ (z : List Requirement). new ++ first_places_from test (i + 1) z (drop (i + 1) ls)) (take_more ls i d lt)
    ∙ ap (λ (z : List ℕ). z ++ more) made
    ∙ append_assoc old here more
    ∙ ap (λ (z : List Requirement). old ++ first_places_from test i (take i ls) z) (sym (drop_more ls i d lt))
    ∙ so_far

-- ---- the places of those that pass one of two tests

in_both : (p : ℕ) (xs ys : List ℕ) → is_in p (xs ++ ys) ≡ (is_in p xs || is_in p ys)
in_both p xs ys = list_any-append (λ x. x == p) xs ys

joined : (a b c d : Bool) → ((a || b) || (c || d)) ≡ ((a || c) || (b || d))
joined true b c d = refl
joined false true true d = refl
joined false true false d = refl
joined false false c d = refl

one_place : (seen a b : Bool) (p k : ℕ) → is_in p (cond seen [] (cond (a || b) (k ∷ []) [])) ≡ (is_in p (cond seen [] (cond a (k ∷ []) [])) || is_in p (cond seen [] (cond b (k ∷ []) [])))
one_place true a b p k = refl
one_place false true true p k = elim (k == p) as (λ (c : Bool). (c || false) ≡ ((c || false) || (c || false))) [ true ↦ refl | false ↦ refl ]
one_place false true false p k = elim (k == p) as (λ (c : Bool). (c || false) ≡ ((c || false) || false)) [ true ↦ refl | false ↦ refl ]
one_place false false b p k = refl

module _ (p : ℕ) where
  in_either : (one other : Requirement → Bool) (k : ℕ) (before rest : List Requirement)
      → is_in p (first_places_from (λ r. one r || other r) k before rest) ≡ (is_in p (first_places_from one k before rest) || is_in p (first_places_from other k before rest))
  in_either one other k before [] = refl
  in_either one other k before (r ∷ rs) =
      let seen = list_any (λ b. same_requirement b r) before in
      let more : (Requirement → Bool) → List ℕ = λ test. first_places_from test (k + 1) (before ++ r ∷ []) rs in
      let here : Bool → List ℕ = λ kept. cond seen [] (cond kept (k ∷ []) []) in
      in_both p (here (one r || other r)) (more (λ x. one x || other x))
      ∙ ap (λ (z : Bool). z || is_in p (more (λ x. one x || other x))) (one_place seen (one r) (other r) p k)
      ∙ ap (λ (z : Bool). (is_in p (here (one r)) || is_in p (here (other r))) || z) (in_either one other (k + 1) (before ++ r ∷ []) rs)
      ∙ joined (is_in p (here (one r))) (is_in p (here (other r))) (is_in p (more one)) (is_in p (more other))
      ∙ ap (λ (z : Bool). z || (is_in p (here (other r)) || is_in p (more other))) (sym (in_both p (here (one r)) (more one)))
      ∙ ap (λ (z : Bool). is_in p (first_places_from one k before (r ∷ rs)) || z) (sym (in_both p (here (other r)) (more other)))

  in_none : (k : ℕ) (before rest : List Requirement) → is_in p (first_places_from (λ r. false) k before rest) ≡ false
  in_none k before [] = refl
  in_none k before (r ∷ rs) =
      elim (list_any (λ b. same_requirement b r) before) as (λ (seen : Bool). is_in p (cond seen [] [] ++ first_places_from (λ x. false) (k + 1) (before ++ r ∷ []) rs) ≡ false) [
        | true ↦ in_none (k + 1) (before ++ r ∷ []) rs
        | false ↦ in_none (k + 1) (before ++ r ∷ []) rs
      ]

  -- the places for each of some things are those of what passes the test of one of them
  in_some : {A : Type 0} (ls : List Requirement) (test : A → Requirement → Bool) (f : A → List ℕ) → ((x : A) → is_in p (f x) ≡ is_in p (first_places ls (test x)))
      → (xs : List A) → is_in p (flat_map f xs) ≡ is_in p (first_places ls (λ l. list_any (λ x. test x l) xs))
  in_some ls test f each [] = sym (in_none 0 [] ls)
  in_some ls test f each (x ∷ xs) =
      in_both p (f x) (flat_map f xs)
      ∙ ap (λ (z : Bool). z || is_in p (flat_map f xs)) (each x)
      ∙ ap (λ (z : Bool). is_in p (first_places ls (test x)) || z) (in_some ls test f each xs)
      ∙ sym (in_either (test x) (λ l. list_any (λ y. test y l) xs) 0 [] ls)

  in_tree : (ls : List Requirement) (t : Tree) → is_in p (flat_map (places_for ls) (leaves t)) ≡ is_in p (first_places ls (λ l. list_any (satisfies l) (leaves t)))
  in_tree ls t = in_some ls (λ r l. satisfies l r) (places_for ls) (λ r. refl) (leaves t)

  in_trees : (ls : List Requirement) (trees : List Tree) → is_in p (flat_map (λ t. flat_map (places_for ls) (leaves t)) trees) ≡ is_in p (first_places ls (satisfies_some trees))
  in_trees ls trees = in_some ls (λ t l. list_any (satisfies l) (leaves t)) (λ t. flat_map (places_for ls) (leaves t)) (in_tree ls) trees

-- ---- in order and without doubles

kept_in : (p : ℕ) (xs : List ℕ) → is_in p (dedup eqb xs) ≡ is_in p xs
kept_in p xs = some_same (λ x. x == p) (dedup eqb xs) xs (λ x. (Contains-from_dedup eqb xs x, Contains-dedup_nat xs x))

-- what is left of the places for each requirement are the useful licensees
pub useful_at : (trees : List Tree) (ls : List Requirement) (found sorted left : List ℕ) → found ≡ flat_map (λ t. flat_map (places_for ls) (leaves t)) trees
    → IsPermutation found sorted → IsSorted nat_cmp sorted → IsFiltered (DiffersFromLast eqb) [] sorted left
    → at_places ls left ≡ useful trees ls
useful_at trees ls found sorted left e moved order filtered =
    let is : left ≡ dedup eqb sorted = dedup_is eqb sorted left filtered in
    let rising : rises 0 (dedup eqb sorted) = increasing_rises (dedup eqb sorted) (IsStrictlyIncreasing-dedup sorted order) in
    let each : (p : ℕ) → is_in p (dedup eqb sorted) ≡ is_in p (first_places ls (satisfies_some trees)) = λ p.
    kept_in p sorted ∙ sym (list_any-IsPermutation (λ x. x == p) found sorted moved) ∙ ap (is_in p) e ∙ in_trees p ls trees in
    let same : left ≡ first_places ls (satisfies_some trees) = is ∙ rising_same 0 0 (dedup eqb sorted) (first_places ls (satisfies_some trees)) rising (places_rise (satisfies_some trees) 0 [] ls) each in
    ap (at_places ls) same ∙ at_first (satisfies_some trees) 0 [] ls ls refl
