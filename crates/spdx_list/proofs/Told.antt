-- What a comparison of rows tells: each difference, and nothing else.
use Rattle.std.proofs.Common.{◌≡◌, ℕ, Bool, true, false, cond, ◌⊎◌, inl, inr, List, [], ◌∷◌, ◌++◌, Option, Some, None, filter, refl, sym, ◌∙◌, ap, subst, arith, All, Contains}
use Rattle.std.proofs.lemmas.List.Elements.{All-filter, All-contains, All-contains_itself, filter_passes, Contains-append_left, Contains-append_right, Contains-append_cases, Contains-push, Contains-push_cases}
use Rattle.spdx_list.specs.Diff.{is_none, named, only_here, change, with_change, changes, TellsEach}

-- ---- elements
head_or_rest : {X : Type 0} (y : X) (ys : List X) (q : X) → Contains (y ∷ ys) q → (y ≡ q) ⊎ Contains ys q
head_or_rest {X} y ys q has = outer (Contains-append_cases (y ∷ []) ys q has)
  where
    inner : Contains {X = X} [] q ⊎ (y ≡ q) → (y ≡ q) ⊎ Contains ys q
    inner (inl none) = absurd (omega (arith, none.1))
    inner (inr is) = inl is

    outer : Contains (y ∷ []) q ⊎ Contains ys q → (y ≡ q) ⊎ Contains ys q
    outer (inl one) = inner (Contains-push_cases [] y q one)
    outer (inr rest) = inr rest

at_head : {X : Type 0} (x : X) (xs : List X) → Contains (x ∷ xs) x
at_head x xs = Contains-append_left (x ∷ []) xs x (Contains-push [] x)

behind : {X : Type 0} (y : X) (ys : List X) (q : X) → Contains ys q → Contains (y ∷ ys) q
behind y ys q has = Contains-append_right (y ∷ []) ys q has

module _ {X : Type 0} (p : X → Bool) where
  of_kept : (xs : List X) (x : X) → Contains (filter p xs) x → Contains xs x × (p x ≡ true)
  of_kept xs x has = (
    All-contains (Contains xs) (filter p xs) x (All-filter p (Contains xs) xs (All-contains_itself xs)) has,
    All-contains (λ y. p y ≡ true) (filter p xs) x (filter_passes p xs) has,
  )

  keeps : (y : X) (ys : List X) (x : X) → Contains (filter p ys) x → (b : Bool) → Contains (cond b (y ∷ filter p ys) (filter p ys)) x
  keeps y ys x has true = behind y (filter p ys) x has
  keeps y ys x has false = has

  kept : (xs : List X) (x : X) → Contains xs x → p x ≡ true → Contains (filter p xs) x
  kept [] x has passes = absurd (omega (arith, has.1))
  kept (y ∷ ys) x has passes = by (head_or_rest y ys x has) (λ rest. kept ys x rest passes)
    where
      by : (y ≡ x) ⊎ Contains ys x → (Contains ys x → Contains (filter p ys) x) → Contains (filter p (y ∷ ys)) x
      by (inl is) rest =
          let here : p y ≡ true = ap p is ∙ passes in
          subst (λ (b : Bool). Contains (cond b (y ∷ filter p ys) (filter p ys)) x) (sym here) (subst (Contains (y ∷ filter p ys)) is (at_head y (filter p ys)))
      by (inr has) rest = keeps y ys x (rest has) (p y)

-- ---- rows of one list alone
no_row : {A : Type 0} (o : Option A) → is_none o ≡ true → o ≡ None
no_row None e = refl
no_row (Some r) e = absurd cc

module _ {A : Type 0} (name_of : A → List ℕ) where
  alone : (rows others : List A) (r : A) → Contains (only_here name_of rows others) r → Contains rows r × (named name_of others (name_of r) ≡ None)
  alone rows others r has =
      let both = of_kept (λ r. is_none (named name_of others (name_of r))) rows r has in
      (both.0, no_row (named name_of others (name_of r)) both.1)

  told_alone : (rows others : List A) (r : A) → Contains rows r → named name_of others (name_of r) ≡ None → Contains (only_here name_of rows others) r
  told_alone rows others r has none = kept (λ r. is_none (named name_of others (name_of r))) rows r has (ap is_none none)

-- ---- rows that changed
module _ {A : Type 0} (is_same : A → A → Bool) where
  of_step : (m : Option A) (new : A) (rest : List (A × A)) (old r : A) → Contains (with_change (change is_same m new) rest) (old, r)
      → ((new ≡ r) × (m ≡ Some old) × (is_same old r ≡ false)) ⊎ Contains rest (old, r)
  of_step None new rest old r has = inr has
  of_step (Some before) new rest old r has = by (is_same before new) refl has
    where
      pair : is_same before new ≡ false → (◌≡◌ {A = A × A} (before, new) (old, r)) ⊎ Contains rest (old, r)
          → ((new ≡ r) × (Some before ≡ Some old) × (is_same old r ≡ false)) ⊎ Contains rest (old, r)
      pair e (inl is) =
          let one : before ≡ old = ap (λ (x : A × A). x.0) is in
          let other : new ≡ r = ap (λ (x : A × A). x.1) is in
          inl (other, ap Some one, ap (λ (a : A). is_same a r) (sym one) ∙ ap (is_same before) (sym other) ∙ e)
      pair e (inr has) = inr has

      by : (b : Bool) → is_same before new ≡ b → Contains (with_change (cond b None (Some (before, new))) rest) (old, r)
          → ((new ≡ r) × (Some before ≡ Some old) × (is_same old r ≡ false)) ⊎ Contains rest (old, r)
      by true e has = inr has
      by false e has = pair e (head_or_rest (before, new) rest (old, r) has)

  beyond : (o : Option (A × A)) (rest : List (A × A)) (x : A × A) → Contains rest x → Contains (with_change o rest) x
  beyond None rest x has = has
  beyond (Some y) rest x has = behind y rest x has

module _ {A : Type 0} (name_of : A → List ℕ) (is_same : A → A → Bool) where
  of_changes : (olds news : List A) (old r : A) → Contains (changes name_of is_same olds news) (old, r)
      → Contains news r × (named name_of olds (name_of r) ≡ Some old) × (is_same old r ≡ false)
  of_changes olds [] old r has = absurd (omega (arith, has.1))
  of_changes olds (new ∷ news) old r has =
      by (of_step is_same (named name_of olds (name_of new)) new (changes name_of is_same olds news) old r has) (λ rest. of_changes olds news old r rest)
    where
      by : ((new ≡ r) × (named name_of olds (name_of new) ≡ Some old) × (is_same old r ≡ false)) ⊎ Contains (changes name_of is_same olds news) (old, r)
          → (Contains (changes name_of is_same olds news) (old, r) → Contains news r × (named name_of olds (name_of r) ≡ Some old) × (is_same old r ≡ false))
          → Contains (new ∷ news) r × (named name_of olds (name_of r) ≡ Some old) × (is_same old r ≡ false)
      by (inl found) rest = (
        subst (Contains (new ∷ news)) found.0 (at_head new news),
        ap (λ (x : A). named name_of olds (name_of x)) (sym found.0) ∙ found.1,
        found.2,
      )
      by (inr has) rest = let found = rest has in (behind new news r found.0, found.1, found.2)

  told_change : (olds news : List A) (old r : A) → Contains news r → named name_of olds (name_of r) ≡ Some old → is_same old r ≡ false
      → Contains (changes name_of is_same olds news) (old, r)
  told_change olds [] old r has named_so differ = absurd (omega (arith, has.1))
  told_change olds (new ∷ news) old r has named_so differ = by (head_or_rest new news r has) (λ rest. told_change olds news old r rest named_so differ)
    where
      here : change is_same (named name_of olds (name_of r)) r ≡ Some (old, r)
      here = ap (λ (m : Option A). change is_same m r) named_so ∙ ap (λ (b : Bool). cond b None (Some (old, r))) differ

      by : (new ≡ r) ⊎ Contains news r → (Contains news r → Contains (changes name_of is_same olds news) (old, r)) → Contains (changes name_of is_same olds (new ∷ news)) (old, r)
      by (inl is) rest =
          subst (λ (x : A). Contains (with_change (change is_same (named name_of olds (name_of x)) x) (changes name_of is_same olds news)) (old, r)) (sym is)
          (subst (λ (o : Option (A × A)). Contains (with_change o (changes name_of is_same olds news)) (old, r)) (sym here) (at_head (old, r) (changes name_of is_same olds news)))
      by (inr has) rest = beyond is_same (change is_same (named name_of olds (name_of new)) new) (changes name_of is_same olds news) (old, r) (rest has)

  pub tells_each : (olds news : List A) → TellsEach name_of is_same olds news (only_here name_of news olds) (only_here name_of olds news) (changes name_of is_same olds news)
  tells_each olds news = record {
    is_added = λ r. (alone name_of news olds r, told_alone name_of news olds r);
    is_removed = λ r. (alone name_of olds news r, told_alone name_of olds news r);
    is_changed = λ old new. (of_changes olds news old new, told_change olds news old new);
  }
