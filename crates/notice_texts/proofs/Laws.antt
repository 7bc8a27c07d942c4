-- What a filter keeps, and that nothing that may be owed is left out.
use Rattle.std.proofs.Common.{◌≡◌, ℕ, zero, suc, ◌+◌, ◌<◌, Bool, true, false, cond, List, [], ◌∷◌, ◌++◌, length, get_or, map, take, Contains, refl, sym, ap, ◌∙◌, subst, ◌⊎◌, inl, inr, arith}
use Rattle.std.specs.Prelude.{not, ◌&&◌, ◌||◌, filter}
use Rattle.std.specs.List.{list_any}
use Rattle.std.proofs.lemmas.List.{append-nil, map-append, take_more}
use Rattle.std.proofs.lemmas.List.Elements.{filter-append}
use Rattle.notice_texts.specs.Names.{name_in, says_one}
use Rattle.notice_texts.specs.Owed.{Seen, is_text, is_owed, owed, LeavesNothingOut, HasNothingElse}

pub any_map : {A B : Type 0} (p : B → Bool) (f : A → B) (xs : List A) → list_any (λ x. p (f x)) xs ≡ list_any p (map f xs)
any_map p f [] = refl
any_map p f (x ∷ xs) = ap (λ b. p (f x) || b) (any_map p f xs)

onto : {X : Type 0} (b : Bool) (y : X) (zs : List X) (x : X) → Contains zs x → Contains (cond b (y ∷ zs) zs) x
onto true y zs x h = (suc h.0, omega (arith, h.1), h.2)
onto false y zs x h = h

first : {X : Type 0} (b : Bool) (y : X) (zs : List X) (x : X) → b ≡ true → y ≡ x → Contains (cond b (y ∷ zs) zs) x
first true y zs x e at = (zero, omega arith, at)
first false y zs x e at = absurd (let bad : false ≡ true = e in cc)

keeps : {X : Type 0} (p : X → Bool) (xs : List X) (x : X) → Contains xs x → p x ≡ true → Contains (filter p xs) x
keeps p [] x h e = absurd (omega (arith, h.1))
keeps p (y ∷ ys) x (zero, low, at) e = first (p y) y (filter p ys) x (subst (λ z. p z ≡ true) (sym at) e) at
keeps p (y ∷ ys) x (suc i, low, at) e = onto (p y) y (filter p ys) x (keeps p ys x (i, omega (arith, low), at) e)

behind : {X : Type 0} (p : X → Bool) (y : X) (ys : List X) (x : X) → Contains ys x × (p x ≡ true) → Contains (y ∷ ys) x × (p x ≡ true)
behind p y ys x h = ((suc h.0.0, omega (arith, h.0.1), h.0.2), h.1)

within_so : {X : Type 0} (p : X → Bool) (y : X) (ys : List X) (x : X) (b : Bool) → p y ≡ b → Contains (cond b (y ∷ filter p ys) (filter p ys)) x → (Contains (filter p ys) x → Contains ys x × (p x ≡ true)) → Contains (y ∷ ys) x × (p x ≡ true)
within_so p y ys x true e (zero, low, at) more = ((zero, omega arith, at), subst (λ z. p z ≡ true) at e)
within_so p y ys x true e (suc i, low, at) more = behind p y ys x (more (i, omega (arith, low), at))
within_so p y ys x false e h more = behind p y ys x (more h)

within : {X : Type 0} (p : X → Bool) (xs : List X) (x : X) → Contains (filter p xs) x → Contains xs x × (p x ≡ true)
within p [] x h = absurd (omega (arith, h.1))
within p (y ∷ ys) x h = within_so p y ys x (p y) refl h (within p ys x)

is_owed_so : (text offered chosen : Bool) → text ≡ true → (chosen ≡ true) ⊎ (offered ≡ false) → (text && not (offered && not chosen)) ≡ true
is_owed_so true true true t h = refl
is_owed_so true false chosen t h = refl
is_owed_so true true false t (inl h) = h
is_owed_so true true false t (inr h) = sym h
is_owed_so false offered chosen t h = t

may_be_owed_so : (text offered chosen : Bool) → (text && not (offered && not chosen)) ≡ true → (text ≡ true) × ((chosen ≡ true) ⊎ (offered ≡ false))
may_be_owed_so true true true h = (refl, inl refl)
may_be_owed_so true false chosen h = (refl, inr refl)
may_be_owed_so true true false h = absurd (let bad : false ≡ true = h in cc)
may_be_owed_so false offered chosen h = absurd (let bad : false ≡ true = h in cc)

pub leaves_nothing_out : (offered chosen : List (List ℕ)) (files : List Seen) → LeavesNothingOut offered chosen files (owed offered chosen files)
leaves_nothing_out offered chosen files f h may =
    keeps (is_owed offered chosen) files f h
    (is_owed_so (is_text f) (says_one (name_in f.path) offered) (says_one (name_in f.path) chosen) may.0 may.1)

pub has_nothing_else : (offered chosen : List (List ℕ)) (files : List Seen) → HasNothingElse offered chosen files (owed offered chosen files)
has_nothing_else offered chosen files f h =
    let kept = within (is_owed offered chosen) files f h in
    (kept.0, may_be_owed_so (is_text f) (says_one (name_in f.path) offered) (says_one (name_in f.path) chosen) kept.1)

-- ---- one element more

pub map_more : {X A : Type 0} (g : X → A) (xs : List X) (i : ℕ) (d : X) → i < length xs → map g (take (i + 1) xs) ≡ map g (take i xs) ++ g (get_or xs i d) ∷ []
map_more g xs i d lt = ap (map g) (take_more xs i d lt) ∙ map-append g (take i xs) (get_or xs i d ∷ [])

pub map_pushed : {X A : Type 0} (g : X → A) (xs ys : List X) (x : X) (bs : List A) → ys ≡ xs ++ x ∷ [] → map g xs ≡ bs → map g ys ≡ bs ++ g x ∷ []
map_pushed g xs ys x bs pushed was = ap (map g) pushed ∙ map-append g xs (x ∷ []) ∙ ap (λ cs. cs ++ g x ∷ []) was

pub filter_kept : {X : Type 0} (p : X → Bool) (xs : List X) (x : X) → p x ≡ true → filter p (xs ++ x ∷ []) ≡ filter p xs ++ x ∷ []
filter_kept p xs x e = filter-append p xs (x ∷ []) ∙ ap (λ b. filter p xs ++ cond b (x ∷ []) []) e

pub filter_left : {X : Type 0} (p : X → Bool) (xs : List X) (x : X) → p x ≡ false → filter p (xs ++ x ∷ []) ≡ filter p xs
filter_left p xs x e = filter-append p xs (x ∷ []) ∙ ap (λ b. filter p xs ++ cond b (x ∷ []) []) e ∙ append-nil (filter p xs)
