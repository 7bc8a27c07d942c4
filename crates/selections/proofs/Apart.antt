-- Lists of sets of which none includes another.
use Rattle.std.proofs.Common.{◌≡◌, ℕ, Bool, true, false, ◌&&◌, ◌||◌, cond, List, [], ◌∷◌, ◌++◌, refl, sym}
use Rattle.std.specs.Prelude.{not, fold}
use Rattle.std.specs.List.{list_any, list_all, filter}
use Rattle.selections.specs.Sets.{includes, includes_some, without, either, with_set, unions, both, differ, AreApart}
use Rattle.selections.proofs.Means.{and_first, and_second, and_both, turned_back}

-- what holds of all of a list holds of the element
abbrev pub Among : {X : Type 0} → List X → X → Type 0
Among {X} xs x = (q : X → Bool) → list_all q xs ≡ true → q x ≡ true

pub all_from : {X : Type 0} (q : X → Bool) (xs : List X) → ((x : X) → Among xs x → q x ≡ true) → list_all q xs ≡ true
all_from q [] h = refl
all_from q (x ∷ xs) h =
    and_both (q x) (list_all q xs) (h x (λ r e. and_first (r x) (list_all r xs) e)) (all_from q xs (λ y there. h y (λ r e. there r (and_second (r x) (list_all r xs) e))))

pub none_passes : {X : Type 0} (q : X → Bool) (xs : List X) → list_any q xs ≡ false → list_all (λ x. not (q x)) xs ≡ true
none_passes q [] e = refl
none_passes q (x ∷ xs) e = step (q x) (list_any q xs) e (none_passes q xs)
  where
    step : (a b : Bool) → (a || b) ≡ false → (b ≡ false → list_all (λ x. not (q x)) xs ≡ true) → (not a && list_all (λ x. not (q x)) xs) ≡ true
    step true b e h = let bad : false ≡ true = sym e in cc
    step false b e h = h e

-- what is kept passes the test, and what holds of all holds of what is kept
pub kept_pass : {X : Type 0} (t : X → Bool) (xs : List X) → list_all t (filter t xs) ≡ true
kept_pass t [] = refl
kept_pass t (x ∷ xs) = step (t x) refl (kept_pass t xs)
  where
    step : (b : Bool) → t x ≡ b → list_all t (filter t xs) ≡ true → list_all t (cond b (x ∷ filter t xs) (filter t xs)) ≡ true
    step true e h = and_both (t x) (list_all t (filter t xs)) e h
    step false e h = h

pub all_kept : {X : Type 0} (q t : X → Bool) (xs : List X) → list_all q xs ≡ true → list_all q (filter t xs) ≡ true
all_kept q t [] e = refl
all_kept q t (x ∷ xs) e = step (t x) (all_kept q t xs (and_second (q x) (list_all q xs) e))
  where
    step : (b : Bool) → list_all q (filter t xs) ≡ true → list_all q (cond b (x ∷ filter t xs) (filter t xs)) ≡ true
    step true h = and_both (q x) (list_all q (filter t xs)) (and_first (q x) (list_all q xs) e) h
    step false h = h

all_append : {X : Type 0} (q : X → Bool) (xs ys : List X) → list_all q xs ≡ true → list_all q ys ≡ true → list_all q (xs ++ ys) ≡ true
all_append q [] ys e h = h
all_append q (x ∷ xs) ys e h = and_both (q x) (list_all q (xs ++ ys)) (and_first (q x) (list_all q xs) e) (all_append q xs ys (and_second (q x) (list_all q xs) e) h)

-- ---- lists

pub apart_kept : (t : List ℕ → Bool) (xs : List (List ℕ)) → AreApart xs → AreApart (filter t xs)
apart_kept t [] h = tt
apart_kept t (x ∷ xs) h = step (t x) (apart_kept t xs h.1)
  where
    step : (b : Bool) → AreApart (filter t xs) → AreApart (cond b (x ∷ filter t xs) (filter t xs))
    step true k = (all_kept (differ x) t xs h.0, k)
    step false k = k

pub apart_append : (xs ys : List (List ℕ)) → AreApart xs → AreApart ys → list_all (λ x. list_all (differ x) ys) xs ≡ true → AreApart (xs ++ ys)
apart_append [] ys h k e = k
apart_append (x ∷ xs) ys h k e =
    let all = λ (z : List ℕ). list_all (differ z) ys in
    (all_append (differ x) xs ys h.0 (and_first (all x) (list_all all xs) e), apart_append xs ys h.1 k (and_second (all x) (list_all all xs) e))

pub either_apart : (ls rs : List (List ℕ)) → AreApart ls → AreApart rs → AreApart (either ls rs)
either_apart ls rs h k =
    let kept = without rs ls in
    let more = without kept rs in
    apart_append kept more (apart_kept (λ s. not (includes_some rs s)) ls h) (apart_kept (λ s. not (includes_some kept s)) rs k)
    (all_from (λ s. list_all (differ s) more) kept (λ s s_in. all_from (differ s) more (λ m m_in.
    let none_of_right = none_passes (includes s) rs (turned_back (includes_some rs s) (s_in (λ z. not (includes_some rs z)) (kept_pass (λ z. not (includes_some rs z)) ls))) in
    let none_of_left = none_passes (includes m) kept (turned_back (includes_some kept m) (m_in (λ z. not (includes_some kept z)) (kept_pass (λ z. not (includes_some kept z)) rs))) in
    and_both (not (includes s m)) (not (includes m s))
    (m_in (λ z. not (includes s z)) (all_kept (λ z. not (includes s z)) (λ z. not (includes_some kept z)) rs none_of_right))
    (s_in (λ z. not (includes m z)) none_of_left))))

pub with_set_apart : (sets : List (List ℕ)) (s : List ℕ) → AreApart sets → AreApart (with_set sets s)
with_set_apart sets s h = cases (includes_some sets s) refl
  where
    left : List (List ℕ)
    left = filter (λ m. not (includes m s)) sets

    cases : (b : Bool) → includes_some sets s ≡ b → AreApart (cond b sets (left ++ s ∷ []))
    cases true there = h
    cases false there =
        apart_append left (s ∷ []) (apart_kept (λ m. not (includes m s)) sets h) (refl, tt)
        (all_from (λ m. list_all (differ m) (s ∷ [])) left (λ m m_in.
        let none = all_kept (λ z. not (includes s z)) (λ z. not (includes z s)) sets (none_passes (includes s) sets there) in
        and_both (differ m s) true
        (and_both (not (includes m s)) (not (includes s m)) (m_in (λ z. not (includes z s)) (kept_pass (λ z. not (includes z s)) sets)) (m_in (λ z. not (includes s z)) none)) refl))

pub all_with_apart : (more sets : List (List ℕ)) → AreApart sets → AreApart (fold with_set sets more)
all_with_apart [] sets h = h
all_with_apart (s ∷ more) sets h = all_with_apart more (with_set sets s) (with_set_apart sets s h)

pub both_apart : (ls rs : List (List ℕ)) → AreApart (both ls rs)
both_apart ls rs = all_with_apart (unions ls rs) [] tt
