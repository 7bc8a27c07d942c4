-- The files that nobody needs are those whose names nobody needs.
use Rattle.std.proofs.Common.{◌≡◌, refl, sym, ap, ◌∙◌, ℕ, suc, ◌+◌, ◌<◌, Bool, true, false, cond, List, [], ◌∷◌, ◌++◌, Option, Some, None, Bor, String, Global, get_or, drop, drop-cons, add-one, append_assoc, length, map, string_bytes}
use Rattle.std.specs.Prelude.{bytes_eq, filter, is_some, not, option_map, unwrap_or}
use Rattle.std.specs.Option.{option_map_or}
use Rattle.std.proofs.lemmas.Bool.{true≢false}
use Rattle.std.proofs.lemmas.List.{map-append}
use Rattle.std.proofs.lemmas.Slice.Eq.{bytes_eq-Decides}
use Rattle.notice_texts.specs.Lacking.{is_needed, unused}
use Rattle.check_sources.specs.declared.owed.Whole as written
use Rattle.check_sources.specs.Owed.{Whole, after, is_idle, name_of, those_called, unused_at, whole_names, whole_of}

-- what passes is first among those that pass only if it passes
first_by : {A : Type 0} (p : A → Bool) (y : A) (kept : List A) (x : A) (rest : List A)
    → (kept ≡ x ∷ rest → p x ≡ true) → (b : Bool) → p y ≡ b → cond b (y ∷ kept) kept ≡ x ∷ rest → p x ≡ true
first_by p y kept x rest others true is e = let same : x ≡ y = cc in ap p same ∙ is
first_by p y kept x rest others false is e = others e

pub first_passes : {A : Type 0} (p : A → Bool) (xs : List A) (x : A) (rest : List A) → filter p xs ≡ x ∷ rest → p x ≡ true
first_passes p [] x rest e = cc
first_passes p (y ∷ ys) x rest e = first_by p y (filter p ys) x rest (first_passes p ys x rest) (p y) refl e

-- what doesn't pass isn't the first of those that pass
after_other : (p : List ℕ → Bool) (names kept : List (List ℕ)) (name : List ℕ) → filter p names ≡ kept → p name ≡ false → after kept name ≡ None
after_other p names [] name e never = refl
after_other p names (first ∷ rest) name e never =
    by (bytes_eq first name) (λ is. true≢false (sym (first_passes p names first rest e) ∙ ap p ((bytes_eq-Decides first name).0 is) ∙ never))
  where
    by : (b : Bool) → (b ≡ true → ⊥) → cond b (Some rest) None ≡ None
    by true never = absurd (never refl)
    by false never = refl

after_itself : (name : List ℕ) (names : List (List ℕ)) → after (name ∷ names) name ≡ Some names
after_itself name names = ap (λ b. cond b (Some names) None) ((bytes_eq-Decides name name).1 refl)

-- a file more
called_more : (path : List ℕ) (paths names kept : List (List ℕ)) (b : Bool) → those_called names paths ≡ kept
    → (b ≡ true → after names (name_of path) ≡ None)
    → those_called (cond (not b) (name_of path ∷ names) names) (path ∷ paths) ≡ cond (not b) (path ∷ kept) kept
called_more path paths names kept false same other =
    ap (λ o. option_map_or (λ others. path ∷ those_called others paths) o (those_called (name_of path ∷ names) paths)) (after_itself (name_of path) names)
    ∙ ap (λ xs. path ∷ xs) same
called_more path paths names kept true same other =
    ap (λ o. option_map_or (λ others. path ∷ those_called others paths) o (those_called names paths)) (other refl) ∙ same

pub unused_called : (used paths : List (List ℕ)) → those_called (unused used (whole_names paths)) paths ≡ filter (is_idle used) paths
unused_called used [] = refl
unused_called used (path ∷ paths) =
    called_more path paths (unused used (whole_names paths)) (filter (is_idle used) paths) (is_needed used (name_of path)) (unused_called used paths)
    (λ needed. after_other (λ name. not (is_needed used name)) (whole_names paths) (unused used (whole_names paths)) (name_of path) refl (ap not needed))

-- as many files as names
as_many : {A B : Type 0} (x : A) (y : B) (xs : List A) (ys : List B) (b : Bool) → length ys ≡ length xs
    → length (cond b (y ∷ ys) ys) ≡ length (cond b (x ∷ xs) xs)
as_many x y xs ys true e = ap (λ n. suc n) e
as_many x y xs ys false e = e

many_by : {A B : Type 0} (p : B → Bool) (f : A → B) (xs : List A) → length (filter p (map f xs)) ≡ length (filter (λ x. p (f x)) xs)
many_by p f [] = refl
many_by p f (x ∷ xs) = as_many x (f x) (filter (λ y. p (f y)) xs) (filter p (map f xs)) (p (f x)) (many_by p f xs)

pub many_unused : (used paths : List (List ℕ)) → length (filter (is_idle used) paths) ≡ length (unused used (whole_names paths))
many_unused used paths = sym (many_by (λ name. not (is_needed used name)) name_of paths)

-- ---- one file more

abbrev Names : Type 0
Names = Bor (List (Bor (List ℕ)))

abbrev texts_in : Names → List (List ℕ)
texts_in names = map (λ t. t.now) names.now

pub is_called : (rest : List (List ℕ)) (path : List ℕ) (paths : List (List ℕ)) (o : Option Names) (old new : Names)
    → option_map texts_in o ≡ after rest (name_of path) → is_some o ≡ true → new ≡ unwrap_or o old
    → those_called rest (path ∷ paths) ≡ path ∷ those_called (texts_in new) paths
is_called rest path paths None old new found is same = cc
is_called rest path paths (Some x) old new found is same =
    ap (λ o. option_map_or (λ others. path ∷ those_called others paths) o (those_called rest paths)) (sym found)
    ∙ ap (λ (b : Names). path ∷ those_called (texts_in b) paths) (sym same)

pub is_other : (rest : List (List ℕ)) (path : List ℕ) (paths : List (List ℕ)) (o : Option Names) (old new : Names)
    → option_map texts_in o ≡ after rest (name_of path) → is_some o ≡ false → new ≡ unwrap_or o old → texts_in old ≡ rest
    → those_called rest (path ∷ paths) ≡ those_called (texts_in new) paths
is_other rest path paths None old new found is same rests =
    ap (λ o. option_map_or (λ others. path ∷ those_called others paths) o (those_called rest paths)) (sym found)
    ∙ ap (λ ns. those_called ns paths) (sym rests)
    ∙ ap (λ (b : Names). those_called (texts_in b) paths) (sym same)
is_other rest path paths (Some x) old new found is same rests = cc

pub next_files : (files : List (String Global)) (i : ℕ) (file : String Global) → file ≡ get_or files i file → i < length files
    → map string_bytes (drop i files) ≡ string_bytes file ∷ map string_bytes (drop (i + 1) files)
next_files files i file is lt =
    rw add-one (ap (map string_bytes) (drop-cons files i file lt) ∙ ap (λ (f : String Global). string_bytes f ∷ map string_bytes (drop (suc i) files)) (sym is))

pub told_more : (all done told : List Whole) (rest new files paths : List (List ℕ)) (path : List ℕ)
    → files ≡ path ∷ paths → done ++ map unused_at (those_called rest files) ≡ all
    → those_called rest (path ∷ paths) ≡ path ∷ those_called new paths → told ≡ done ++ unused_at path ∷ []
    → told ++ map unused_at (those_called new paths) ≡ all
told_more all done told rest new files paths path are before step put =
    ap (λ d. d ++ map unused_at (those_called new paths)) put ∙ append_assoc done (unused_at path ∷ []) (map unused_at (those_called new paths))
    ∙ ap (λ ps. done ++ map unused_at ps) (sym step) ∙ ap (λ fs. done ++ map unused_at (those_called rest fs)) (sym are) ∙ before

pub told_same : (all done : List Whole) (rest new files paths : List (List ℕ)) (path : List ℕ)
    → files ≡ path ∷ paths → done ++ map unused_at (those_called rest files) ≡ all
    → those_called rest (path ∷ paths) ≡ those_called new paths
    → done ++ map unused_at (those_called new paths) ≡ all
told_same all done rest new files paths path are before step =
    ap (λ ps. done ++ map unused_at ps) (sym step) ∙ ap (λ fs. done ++ map unused_at (those_called rest fs)) (sym are) ∙ before

pub whole_put : (old new : List written.Whole) (w : written.Whole) (path : List ℕ) → new ≡ old ++ w ∷ [] → whole_of w ≡ unused_at path
    → map whole_of new ≡ map whole_of old ++ unused_at path ∷ []
whole_put old new w path put is = ap (map whole_of) put ∙ map-append whole_of old (w ∷ []) ∙ ap (λ x. map whole_of old ++ x ∷ []) is
