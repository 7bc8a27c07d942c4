-- What lists of sets say of numbers: one of the sets passes a test as a whole.
use Rattle.std.proofs.Common.{◌≡◌, ℕ, Bool, true, false, ◌&&◌, ◌||◌, cond, List, [], ◌∷◌, ◌++◌, map, refl, sym, ◌∙◌, ap, ◌⊎◌, inl, inr, ◌==◌}
use Rattle.std.specs.Prelude.{not, fold}
use Rattle.std.specs.List.{list_any, list_all, filter}
use Rattle.std.proofs.lemmas.List.Folds.{list_any-append, list_all-append}
use Rattle.std.proofs.lemmas.Bool.{eqb-true}
use Rattle.selections.specs.Sets.{is_in, includes, includes_some, without, either, with_set, unions, both, met_by}

-- ---- truths

pub same_truth : (a b : Bool) → (a ≡ true → b ≡ true) → (b ≡ true → a ≡ true) → a ≡ b
same_truth true true f g = refl
same_truth false false f g = refl
same_truth true false f g = sym (f refl)
same_truth false true f g = g refl

pub either_way : (a b : Bool) → (a || b) ≡ true → (a ≡ true) ⊎ (b ≡ true)
either_way true b e = inl refl
either_way false b e = inr e

pub or_left : (a b : Bool) → a ≡ true → (a || b) ≡ true
or_left true b e = refl
or_left false b e = let bad : false ≡ true = e in cc

pub or_right : (a b : Bool) → b ≡ true → (a || b) ≡ true
or_right true b e = refl
or_right false b e = e

pub and_first : (a b : Bool) → (a && b) ≡ true → a ≡ true
and_first true b e = refl
and_first false b e = e

pub and_second : (a b : Bool) → (a && b) ≡ true → b ≡ true
and_second true b e = e
and_second false b e = let bad : false ≡ true = e in cc

pub and_both : (a b : Bool) → a ≡ true → b ≡ true → (a && b) ≡ true
and_both true b d e = e
and_both false b d e = d

pub turned : (a : Bool) → not a ≡ false → a ≡ true
turned true e = refl
turned false e = sym e

pub turned_back : (a : Bool) → not a ≡ true → a ≡ false
turned_back true e = sym e
turned_back false e = refl

-- ---- elements

-- an element that passes is there, and what holds of it
pub some_passes : {X : Type 0} (p : X → Bool) (xs : List X) → list_any p xs ≡ true → (x : X) × (p x ≡ true) × ((q : X → Bool) → q x ≡ true → list_any q xs ≡ true) × ((q : X → Bool) → list_all q xs ≡ true → q x ≡ true)
some_passes p [] e = let bad : false ≡ true = e in cc
some_passes p (x ∷ xs) e = elim (either_way (p x) (list_any p xs) e) [
  | inl h ↦ (x, h, (λ q k. or_left (q x) (list_any q xs) k), (λ q k. and_first (q x) (list_all q xs) k))
  | inr h ↦
      let rest = some_passes p xs h in
      (rest.0, rest.1, (λ q k. or_right (q x) (list_any q xs) (rest.2 q k)), (λ q k. rest.3 q (and_second (q x) (list_all q xs) k)))
]

-- what each element implies
pub all_weaker : {X : Type 0} (p q : X → Bool) (xs : List X) → ((x : X) → p x ≡ true → q x ≡ true) → list_all p xs ≡ true → list_all q xs ≡ true
all_weaker p q [] h e = refl
all_weaker p q (x ∷ xs) h e = and_both (q x) (list_all q xs) (h x (and_first (p x) (list_all p xs) e)) (all_weaker p q xs h (and_second (p x) (list_all p xs) e))

pub any_weaker : {X : Type 0} (p q : X → Bool) (xs : List X) → ((x : X) → p x ≡ true → q x ≡ true) → list_any p xs ≡ true → list_any q xs ≡ true
any_weaker p q xs h e = let one = some_passes p xs e in one.2 q (h one.0 one.1)

-- a number in a set that passes passes
pub in_passes : (p : ℕ → Bool) (set : List ℕ) (k : ℕ) → list_all p set ≡ true → is_in set k ≡ true → p k ≡ true
in_passes p set k all there =
    let one = some_passes (λ x. x == k) set there in
    let same : one.0 ≡ k = eqb-true one.0 k one.1 in
    ap p (sym same) ∙ one.3 p all

-- a set that passes passes with each set that it includes
pub included_passes : (p : ℕ → Bool) (set other : List ℕ) → includes set other ≡ true → list_all p set ≡ true → list_all p other ≡ true
included_passes p set other h e = all_weaker (is_in set) p other (λ k there. in_passes p set k e there) h

-- ---- the least of two sides

module _ (p : ℕ → Bool) where
  one_less : (t a kept all c : Bool) → (t ≡ false → a ≡ true → c ≡ true) → (kept || c) ≡ (all || c) → (((t && a) || kept) || c) ≡ ((a || all) || c)
  one_less true true kept all c h e = refl
  one_less true false kept all c h e = e
  one_less false true kept all true h e = or_right kept true refl
  one_less false true kept all false h e = let bad : false ≡ true = h refl refl in cc
  one_less false false kept all c h e = e

  any_kept : (q : List ℕ → Bool) (s : List ℕ) (ss : List (List ℕ)) (b : Bool) → list_any q (cond b (s ∷ ss) ss) ≡ ((b && q s) || list_any q ss)
  any_kept q s ss true = refl
  any_kept q s ss false = refl

  -- sets may go that pass only where something else holds
  kept_enough : (t : List ℕ → Bool) (c : Bool) → ((s : List ℕ) → t s ≡ false → list_all p s ≡ true → c ≡ true) → (sets : List (List ℕ)) → (met_by p (filter t sets) || c) ≡ (met_by p sets || c)
  kept_enough t c h [] = refl
  kept_enough t c h (s ∷ ss) =
      ap (λ (b : Bool). b || c) (any_kept (list_all p) s (filter t ss) (t s))
      ∙ one_less (t s) (list_all p s) (met_by p (filter t ss)) (met_by p ss) c (h s) (kept_enough t c h ss)

  without_same : (others sets : List (List ℕ)) → (met_by p (without others sets) || met_by p others) ≡ (met_by p sets || met_by p others)
  without_same others sets =
      kept_enough (λ s. not (includes_some others s)) (met_by p others) (λ s goes passes.
      let one = some_passes (includes s) others (turned (includes_some others s) goes) in
      one.2 (list_all p) (included_passes p s one.0 one.1 passes)) sets

  swapped : (a b : Bool) → (a || b) ≡ (b || a)
  swapped true true = refl
  swapped true false = refl
  swapped false true = refl
  swapped false false = refl

  pub either_means : (ls rs : List (List ℕ)) → met_by p (either ls rs) ≡ (met_by p ls || met_by p rs)
  either_means ls rs =
      let kept = without rs ls in
      list_any-append (list_all p) kept (without kept rs)
      ∙ swapped (met_by p kept) (met_by p (without kept rs))
      ∙ without_same kept rs
      ∙ swapped (met_by p rs) (met_by p kept)
      ∙ without_same rs ls

  -- ---- one set more

  or_false : (a : Bool) → (a || false) ≡ a
  or_false true = refl
  or_false false = refl

  settled : (a b : Bool) → (b ≡ true → a ≡ true) → a ≡ (a || b)
  settled true b h = refl
  settled false true h = h refl
  settled false false h = refl

  pub with_set_means : (sets : List (List ℕ)) (s : List ℕ) → met_by p (with_set sets s) ≡ (met_by p sets || list_all p s)
  with_set_means sets s = cases (includes_some sets s) refl
    where
      left : List (List ℕ)
      left = filter (λ m. not (includes m s)) sets

      cases : (b : Bool) → includes_some sets s ≡ b → met_by p (cond b sets (left ++ s ∷ [])) ≡ (met_by p sets || list_all p s)
      cases true there = settled (met_by p sets) (list_all p s) (λ passes.
          let one = some_passes (includes s) sets there in
          one.2 (list_all p) (included_passes p s one.0 one.1 passes))
      cases false there =
          list_any-append (list_all p) left (s ∷ [])
          ∙ ap (λ (b : Bool). met_by p left || b) (or_false (list_all p s))
          ∙ kept_enough (λ m. not (includes m s)) (list_all p s) (λ m goes passes. included_passes p m s (turned (includes m s) goes) passes) sets

  pub all_with_means : (more sets : List (List ℕ)) → met_by p (fold with_set sets more) ≡ (met_by p sets || met_by p more)
  all_with_means [] sets = sym (or_false (met_by p sets))
  all_with_means (s ∷ more) sets =
      all_with_means more (with_set sets s)
      ∙ ap (λ (b : Bool). b || met_by p more) (with_set_means sets s)
      ∙ grouped (met_by p sets) (list_all p s) (met_by p more)
    where
      grouped : (a b c : Bool) → ((a || b) || c) ≡ (a || (b || c))
      grouped true b c = refl
      grouped false b c = refl

  -- ---- unions

  with_left : (l : List ℕ) (rs : List (List ℕ)) → met_by p (map (λ r. r ++ l) rs) ≡ (list_all p l && met_by p rs)
  with_left l [] = none (list_all p l)
    where
      none : (a : Bool) → false ≡ (a && false)
      none true = refl
      none false = refl
  with_left l (r ∷ rs) =
      ap (λ (b : Bool). b || met_by p (map (λ r. r ++ l) rs)) (list_all-append p r l)
      ∙ ap (λ (b : Bool). (list_all p r && list_all p l) || b) (with_left l rs)
      ∙ shared (list_all p r) (list_all p l) (met_by p rs)
    where
      shared : (a b c : Bool) → ((a && b) || (b && c)) ≡ (b && (a || c))
      shared true true c = refl
      shared true false c = refl
      shared false true c = refl
      shared false false c = refl

  unions_mean : (ls rs : List (List ℕ)) → met_by p (unions ls rs) ≡ (met_by p ls && met_by p rs)
  unions_mean [] rs = refl
  unions_mean (l ∷ ls) rs =
      list_any-append (list_all p) (map (λ r. r ++ l) rs) (unions ls rs)
      ∙ ap (λ (b : Bool). b || met_by p (unions ls rs)) (with_left l rs)
      ∙ ap (λ (b : Bool). (list_all p l && met_by p rs) || b) (unions_mean ls rs)
      ∙ shared (list_all p l) (met_by p ls) (met_by p rs)
    where
      shared : (a b c : Bool) → ((a && c) || (b && c)) ≡ ((a || b) && c)
      shared true true true = refl
      shared true true false = refl
      shared true false true = refl
      shared true false false = refl
      shared false b c = refl

  pub both_mean : (ls rs : List (List ℕ)) → met_by p (both ls rs) ≡ (met_by p ls && met_by p rs)
  both_mean ls rs = all_with_means (unions ls rs) [] ∙ unions_mean ls rs
