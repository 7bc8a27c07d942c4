-- Lists through a view of their elements, and what a filter keeps.
use Rattle.std.proofs.Common.{◌≡◌, ℕ, zero, suc, Bool, true, false, cond, List, [], ◌∷◌, Contains, length, map, refl, sym, ap, ◌∙◌, subst, arith}
use Rattle.std.specs.Prelude.{not, ◌||◌, filter}
use Rattle.std.specs.List.{list_any}
use Rattle.std.proofs.lemmas.List.{get_or-map}

length_of : {X A : Type 0} (f : X → A) (xs : List X) → length (map f xs) ≡ length xs
length_of f [] = refl
length_of f (x ∷ xs) = ap (λ (n : ℕ). suc n) (length_of f xs)

pub view_of : {X A : Type 0} (f : X → A) (xs : List X) (x : X) → Contains xs x → Contains (map f xs) (f x)
view_of f xs x h = (h.0, omega (arith, length_of f xs, h.1), get_or-map f xs h.0 x (f x) h.1 ∙ ap f h.2)

pub behind_view : {X A : Type 0} (f : X → A) (xs : List X) (k : A) → Contains (map f xs) k → (x : X) × (Contains xs x × (f x ≡ k))
behind_view f [] k h = absurd (omega (arith, h.1))
behind_view f (x ∷ xs) k (zero, low, at) = (x, ((zero, omega arith, refl), at))
behind_view f (x ∷ xs) k (suc i, low, at) =
    let found = behind_view f xs k (i, omega arith, at) in
    (found.0, ((suc found.1.0.0, omega (arith, found.1.0.1), found.1.0.2), found.1.1))

pub view_view : {X A B : Type 0} (g : A → B) (f : X → A) (xs : List X) → map g (map f xs) ≡ map (λ x. g (f x)) xs
view_view g f [] = refl
view_view g f (x ∷ xs) = ap (λ ys. g (f x) ∷ ys) (view_view g f xs)

pub view_same : {X A : Type 0} (f g : X → A) → ((x : X) → f x ≡ g x) → (xs : List X) → map f xs ≡ map g xs
view_same f g e [] = refl
view_same f g e (x ∷ xs) = ap (λ y. y ∷ map f xs) (e x) ∙ ap (λ ys. g x ∷ ys) (view_same f g e xs)

filter_view_so : {X A : Type 0} (f : X → A) (b : Bool) (x : X) (xs : List X) → map f (cond b (x ∷ xs) xs) ≡ cond b (f x ∷ map f xs) (map f xs)
filter_view_so f true x xs = refl
filter_view_so f false x xs = refl

pub filter_view : {X A : Type 0} (p : A → Bool) (f : X → A) (xs : List X) → filter p (map f xs) ≡ map f (filter (λ x. p (f x)) xs)
filter_view p f [] = refl
filter_view p f (x ∷ xs) =
    ap (λ ys. cond (p (f x)) (f x ∷ ys) ys) (filter_view p f xs)
    ∙ sym (filter_view_so f (p (f x)) x (filter (λ y. p (f y)) xs))

first : {X : Type 0} (b : Bool) (y : X) (zs : List X) (x : X) → b ≡ true → y ≡ x → Contains (cond b (y ∷ zs) zs) x
first true y zs x e at = (zero, omega arith, at)
first false y zs x e at = absurd (let bad : false ≡ true = e in cc)

onto : {X : Type 0} (b : Bool) (y : X) (zs : List X) (x : X) → Contains zs x → Contains (cond b (y ∷ zs) zs) x
onto true y zs x h = (suc h.0, omega (arith, h.1), h.2)
onto false y zs x h = h

pub behind : {X : Type 0} (y : X) (zs : List X) (x : X) → Contains zs x → Contains (y ∷ zs) x
behind y zs x h = (suc h.0, omega (arith, h.1), h.2)

pub keeps : {X : Type 0} (p : X → Bool) (xs : List X) (x : X) → Contains xs x → p x ≡ true → Contains (filter p xs) x
keeps p [] x h e = absurd (omega (arith, h.1))
keeps p (y ∷ ys) x (zero, low, at) e = first (p y) y (filter p ys) x (subst (λ z. p z ≡ true) (sym at) e) at
keeps p (y ∷ ys) x (suc i, low, at) e = onto (p y) y (filter p ys) x (keeps p ys x (i, omega (arith, low), at) e)

within_so : {X : Type 0} (p : X → Bool) (y : X) (ys : List X) (x : X) (b : Bool) → p y ≡ b → Contains (cond b (y ∷ filter p ys) (filter p ys)) x → (Contains (filter p ys) x → Contains ys x × (p x ≡ true)) → Contains (y ∷ ys) x × (p x ≡ true)
within_so p y ys x true e (zero, low, at) more = ((zero, omega arith, at), subst (λ z. p z ≡ true) at e)
within_so p y ys x true e (suc i, low, at) more = let r = more (i, omega (arith, low), at) in (behind y ys x r.0, r.1)
within_so p y ys x false e h more = let r = more h in (behind y ys x r.0, r.1)

pub within : {X : Type 0} (p : X → Bool) (xs : List X) (x : X) → Contains (filter p xs) x → Contains xs x × (p x ≡ true)
within p [] x h = absurd (omega (arith, h.1))
within p (y ∷ ys) x h = within_so p y ys x (p y) refl h (within p ys x)

left_so : {X : Type 0} (p : X → Bool) (x : X) (xs : List X) (b : Bool) → p x ≡ b → list_any p (filter (λ y. not (p y)) xs) ≡ false → list_any p (cond (not b) (x ∷ filter (λ y. not (p y)) xs) (filter (λ y. not (p y)) xs)) ≡ false
left_so p x xs true e none = none
left_so p x xs false e none = ap (λ b. b || list_any p (filter (λ y. not (p y)) xs)) e ∙ none

-- none of those that a filter by its opposite keeps
pub none_left : {X : Type 0} (p : X → Bool) (xs : List X) → list_any p (filter (λ x. not (p x)) xs) ≡ false
none_left p [] = refl
none_left p (x ∷ xs) = left_so p x xs (p x) refl (none_left p xs)

either_left : (a c : Bool) → (a || c) ≡ false → c ≡ false
either_left true c e = absurd (let bad : true ≡ false = e in cc)
either_left false c e = e

either_first : (a c : Bool) → (a || c) ≡ false → a ≡ false
either_first true c e = e
either_first false c e = refl

kept_so : {X : Type 0} (p : X → Bool) (x : X) (xs : List X) (b : Bool) → p x ≡ false → list_any p xs ≡ false → list_any p (cond b (x ∷ xs) xs) ≡ false
kept_so p x xs true e none = ap (λ b. b || list_any p xs) e ∙ none
kept_so p x xs false e none = none

-- none of a list, none of what is kept of it
pub none_kept : {X : Type 0} (p q : X → Bool) (xs : List X) → list_any p xs ≡ false → list_any p (filter q xs) ≡ false
none_kept p q [] h = refl
none_kept p q (x ∷ xs) h = kept_so p x (filter q xs) (q x) (either_first (p x) (list_any p xs) h) (none_kept p q xs (either_left (p x) (list_any p xs) h))

pub any_view : {X A : Type 0} (p : A → Bool) (f : X → A) (xs : List X) → list_any p (map f xs) ≡ list_any (λ x. p (f x)) xs
any_view p f [] = refl
any_view p f (x ∷ xs) = ap (λ b. p (f x) || b) (any_view p f xs)
