-- The status is 0 exactly if each name is listed.
use Rattle.std.proofs.Common.{◌≡◌, ℕ, Bool, true, false, cond, List, [], ◌∷◌, filter, map, find, inl, inr, refl, sym, ◌∙◌, ap, All, Contains}
use Rattle.std.specs.Prelude.{◌↔◌, ◌⊎◌, ◌&&◌, Option, None, Some}
use Rattle.std.specs.Option.{is_none}
use Rattle.std.specs.Str.{str_eq_ignore_ascii_case}
use Rattle.std.proofs.lemmas.Bool.{true≢false}
use Rattle.std.proofs.lemmas.List.Elements.{All-contains, All-cons, All-head, All-nil, All-tail, All-weaker, Contains-append_left, Contains-append_right, Contains-push}
use Rattle.spdx_requirement.specs.Rows.{ExceptionRow, LicenseRow, Rows}
use Rattle.list_told.specs.declared.shown.Shown.{Shown}
use Rattle.list_told.specs.declared.unlisted.Unlisted.{Unlisted}
use Rattle.list_told.specs.Shown.{AreShown, IsShownBy, status_by, status_of}
use Rattle.list_told.specs.Unlisted.{IsListed, license, exception, is_unlisted, unlisted_by, unlisted_row}

-- ---- what a walk finds

module _ {A : Type 0} (p : A → Bool) where
  one_passes : (xs : List A) → is_none (find p xs) ≡ false → (x : A) × Contains xs x × (p x ≡ true)
  one_passes [] h = absurd (true≢false h)
  one_passes (y ∷ ys) h = by (p y) refl h (one_passes ys)
    where
      by : (b : Bool) → p y ≡ b → is_none (cond b (Some y) (find p ys)) ≡ false
          → (is_none (find p ys) ≡ false → (x : A) × Contains ys x × (p x ≡ true)) → (x : A) × Contains (y ∷ ys) x × (p x ≡ true)
      by true e h more = (y, Contains-append_left (y ∷ []) ys y (Contains-push [] y), e)
      by false e h more =
          let rest = more h in
          (rest.0, Contains-append_right (y ∷ []) ys rest.0 rest.1, rest.2)

  none_passes : (xs : List A) → is_none (find p xs) ≡ true → All (λ x. p x ≡ false) xs
  none_passes [] h = All-nil (λ x. p x ≡ false)
  none_passes (y ∷ ys) h = by (p y) refl h (none_passes ys)
    where
      by : (b : Bool) → p y ≡ b → is_none (cond b (Some y) (find p ys)) ≡ true
          → (is_none (find p ys) ≡ true → All (λ x. p x ≡ false) ys) → All (λ x. p x ≡ false) (y ∷ ys)
      by true e h more = absurd (true≢false (sym h))
      by false e h more = All-cons (λ x. p x ≡ false) y ys e (more h)

  pub is_found : (xs : List A) (x : A) → Contains xs x → p x ≡ true → is_none (find p xs) ≡ false
  is_found xs x has passes = by (is_none (find p xs)) refl
    where
      by : (b : Bool) → is_none (find p xs) ≡ b → is_none (find p xs) ≡ false
      by true e = absurd (true≢false (sym passes ∙ All-contains (λ x. p x ≡ false) xs x (none_passes xs e) has))
      by false e = e

-- ---- a name

either : (a b : Bool) → (a && b) ≡ false → (a ≡ false) ⊎ (b ≡ false)
either true b e = inr e
either false b e = inl refl

by_first : (a b : Bool) → a ≡ false → (a && b) ≡ false
by_first true b e = absurd (true≢false e)
by_first false b e = refl

by_other : (a b : Bool) → b ≡ false → (a && b) ≡ false
by_other true b e = e
by_other false b e = refl

module _ (c : Rows) where
  abbrev alike : List ℕ → LicenseRow → Bool
  alike name r = str_eq_ignore_ascii_case r.name name

  abbrev alike_exception : List ℕ → ExceptionRow → Bool
  alike_exception name r = str_eq_ignore_ascii_case r.name name

  abbrev no_license : List ℕ → Bool
  no_license name = is_none (find (alike name) c.licenses)

  abbrev no_exception : List ℕ → Bool
  no_exception name = is_none (find (alike_exception name) c.exceptions)

  listed_if : (name : List ℕ) → is_unlisted c name ≡ false → IsListed c name
  listed_if name e = by (either (no_license name) (no_exception name) e)
    where
      by : (no_license name ≡ false) ⊎ (no_exception name ≡ false) → IsListed c name
      by (inl e) = let found = one_passes (alike name) c.licenses e in license found.0 found.1 found.2
      by (inr e) = let found = one_passes (alike_exception name) c.exceptions e in exception found.0 found.1 found.2

  found_if : (name : List ℕ) → IsListed c name → is_unlisted c name ≡ false
  found_if name (license r has e) = by_first (no_license name) (no_exception name) (is_found (alike name) c.licenses r has e)
  found_if name (exception r has e) = by_other (no_license name) (no_exception name) (is_found (alike_exception name) c.exceptions r has e)

-- ---- names

module _ {A : Type 0} (p : A → Bool) where
  none_kept : (xs : List A) → filter p xs ≡ [] → All (λ x. p x ≡ false) xs
  none_kept [] e = All-nil (λ x. p x ≡ false)
  none_kept (x ∷ xs) e = by (p x) refl e (none_kept xs)
    where
      by : (b : Bool) → p x ≡ b → cond b (x ∷ filter p xs) (filter p xs) ≡ []
          → (filter p xs ≡ [] → All (λ x. p x ≡ false) xs) → All (λ x. p x ≡ false) (x ∷ xs)
      by true at e more = absurd cc
      by false at e more = All-cons (λ x. p x ≡ false) x xs at (more e)

  pub all_dropped : (xs : List A) → All (λ x. p x ≡ false) xs → filter p xs ≡ []
  all_dropped [] h = refl
  all_dropped (x ∷ xs) h =
      ap (λ b. cond b (x ∷ filter p xs) (filter p xs)) (All-head (λ x. p x ≡ false) x xs h)
      ∙ all_dropped xs (All-tail (λ x. p x ≡ false) x xs h)

no_image : {A B : Type 0} (f : A → B) (xs : List A) → map f xs ≡ [] → xs ≡ []
no_image f [] e = refl
no_image f (x ∷ xs) e = absurd cc

no_unlisted : (us : List Unlisted) → status_by us ≡ 0 → us ≡ []
no_unlisted [] e = refl
no_unlisted (u ∷ us) e = absurd cc

each_listed : (c : Rows) (names : List (List ℕ)) (us : List Unlisted)
    → map unlisted_row us ≡ map (unlisted_by c) (filter (is_unlisted c) names) → (status_by us ≡ 0) ↔ All (IsListed c) names
each_listed c names us are = (to, from)
  where
    to : status_by us ≡ 0 → All (IsListed c) names
    to e =
        let none : filter (is_unlisted c) names ≡ [] =
        no_image (unlisted_by c) (filter (is_unlisted c) names) (sym are ∙ ap (map unlisted_row) (no_unlisted us e)) in
        All-weaker (λ name. is_unlisted c name ≡ false) (IsListed c) (listed_if c) names (none_kept (is_unlisted c) names none)

    from : All (IsListed c) names → status_by us ≡ 0
    from all =
        let none : filter (is_unlisted c) names ≡ [] =
        all_dropped (is_unlisted c) names (All-weaker (IsListed c) (λ name. is_unlisted c name ≡ false) (found_if c) names all) in
        ap status_by (no_image unlisted_row us (are ∙ ap (map (unlisted_by c)) none))

pub tells_listed : (c : Rows) (day : Option (List ℕ)) (replacements : List ℕ) (names : List (List ℕ)) (shown : Shown)
    → IsShownBy c day replacements names shown → (status_of shown ≡ 0) ↔ All (IsListed c) names
tells_listed c day replacements [] shown is = ((λ e. All-nil (IsListed c)), (λ all. ap status_by is.unlisted_are))
tells_listed c day replacements (name ∷ names) shown (x, says, are) = each_listed c (name ∷ names) shown.unlisted.items are.unlisted_are
