-- Names, each once, and one more.
use Rattle.std.proofs.Common.{◌≡◌, ℕ, ◌+◌, ◌<◌, Bool, ◌||◌, true, false, List, [], ◌∷◌, ◌++◌, length, get_or, map, refl, take, ap, sym, subst, ◌∙◌}
use Rattle.std.specs.Prelude.{bytes_eq, filter, not, if◌then◌else◌}
use Rattle.std.specs.Borrow.{Bor}
use Rattle.std.specs.List.{list_any}
use Rattle.std.proofs.lemmas.List.{map-append, take_more}
use Rattle.std.proofs.lemmas.List.Elements.{filter-append}
use Rattle.std.proofs.lemmas.Slice.Eq.{bytes_eq-Decides}
use Rattle.notice_told.specs.declared.lacks.Lack.{Lack}
use Rattle.owed_texts.specs.Held.{each_first, has_name, lacked_by, with_name}

abbrev is_other : List ℕ → List ℕ → Bool
is_other name other = not (bytes_eq name other)

-- ---- whether a name is among those that aren't another one

kept_has : (n x e : List ℕ) (es : List (List ℕ)) (is : Bool) → bytes_eq n e ≡ is → bytes_eq n x ≡ false → has_name (filter (is_other n) es) x ≡ has_name es x
    → has_name (filter (is_other n) (e ∷ es)) x ≡ has_name (e ∷ es) x
kept_has n x e es true same apart before =
    let unlike : bytes_eq e x ≡ false = subst (λ (z : List ℕ). bytes_eq z x ≡ false) ((bytes_eq-Decides n e).0 same) apart in
    ap (λ (c : Bool). has_name (if not c then e ∷ filter (is_other n) es else filter (is_other n) es) x) same
    ∙ before
    ∙ sym (ap (λ (c : Bool). c || has_name es x) unlike)
kept_has n x e es false same apart before =
    ap (λ (c : Bool). has_name (if not c then e ∷ filter (is_other n) es else filter (is_other n) es) x) same
    ∙ ap (λ (c : Bool). bytes_eq e x || c) before

has_kept : (n x : List ℕ) (es : List (List ℕ)) → bytes_eq n x ≡ false → has_name (filter (is_other n) es) x ≡ has_name es x
has_kept n x [] apart = refl
has_kept n x (e ∷ es) apart = kept_has n x e es (bytes_eq n e) refl apart (has_kept n x es apart)

-- ---- one name more

-- of these names but one
kept_with : (n x : List ℕ) (es : List (List ℕ)) (is has : Bool) → bytes_eq n x ≡ is → has_name es x ≡ has
    → n ∷ filter (is_other n) (with_name es x) ≡ with_name (n ∷ filter (is_other n) es) x
kept_with n x es true true same there =
    ap (λ (c : Bool). n ∷ filter (is_other n) (if c then es else es ++ x ∷ [])) there
    ∙ sym (ap (λ (c : Bool). if c || has_name (filter (is_other n) es) x then n ∷ filter (is_other n) es else n ∷ filter (is_other n) es ++ x ∷ []) same)
kept_with n x es true false same there =
    ap (λ (c : Bool). n ∷ filter (is_other n) (if c then es else es ++ x ∷ [])) there
    ∙ ap (λ (z : List (List ℕ)). n ∷ z) (filter-append (is_other n) es (x ∷ []) ∙ ap (λ (c : Bool). filter (is_other n) es ++ (if not c then x ∷ [] else [])) same)
    ∙ ap (λ (z : List (List ℕ)). n ∷ z) (nil_behind (filter (is_other n) es))
    ∙ sym (ap (λ (c : Bool). if c || has_name (filter (is_other n) es) x then n ∷ filter (is_other n) es else n ∷ filter (is_other n) es ++ x ∷ []) same)
  where
    nil_behind : {A : Type 0} (xs : List A) → xs ++ [] ≡ xs
    nil_behind [] = refl
    nil_behind (y ∷ ys) = ap (λ z. y ∷ z) (nil_behind ys)
kept_with n x es false true same there =
    ap (λ (c : Bool). n ∷ filter (is_other n) (if c then es else es ++ x ∷ [])) there
    ∙ sym (ap (λ (c : Bool). if c || has_name (filter (is_other n) es) x then n ∷ filter (is_other n) es else n ∷ filter (is_other n) es ++ x ∷ []) same
    ∙ ap (λ (c : Bool). if c then n ∷ filter (is_other n) es else n ∷ filter (is_other n) es ++ x ∷ []) (has_kept n x es same ∙ there))
kept_with n x es false false same there =
    ap (λ (c : Bool). n ∷ filter (is_other n) (if c then es else es ++ x ∷ [])) there
    ∙ ap (λ (z : List (List ℕ)). n ∷ z) (filter-append (is_other n) es (x ∷ []) ∙ ap (λ (c : Bool). filter (is_other n) es ++ (if not c then x ∷ [] else [])) same)
    ∙ sym (ap (λ (c : Bool). if c || has_name (filter (is_other n) es) x then n ∷ filter (is_other n) es else n ∷ filter (is_other n) es ++ x ∷ []) same
    ∙ ap (λ (c : Bool). if c then n ∷ filter (is_other n) es else n ∷ filter (is_other n) es ++ x ∷ []) (has_kept n x es same ∙ there))

pub first_more : (names : List (List ℕ)) (x : List ℕ) → each_first (names ++ x ∷ []) ≡ with_name (each_first names) x
first_more [] x = refl
first_more (n ∷ names) x =
    ap (λ (z : List (List ℕ)). n ∷ filter (is_other n) z) (first_more names x)
    ∙ kept_with n x (each_first names) (bytes_eq n x) (has_name (each_first names) x) refl refl

-- those of one lack more
pub one_more : (lacks : List Lack) (i : ℕ) (d : Lack) (old new : List (List ℕ)) → old ≡ each_first (map lacked_by (take i lacks)) → i < length lacks → new ≡ with_name old (get_or lacks i d).text.now
    → new ≡ each_first (map lacked_by (take (i + 1) lacks))
one_more lacks i d old new before lt more =
    let x = (get_or lacks i d).text.now in
    more ∙ ap (λ (z : List (List ℕ)). with_name z x) before
    ∙ sym (first_more (map lacked_by (take i lacks)) x)
    ∙ ap each_first (sym (ap (map lacked_by) (take_more lacks i d lt) ∙ map-append lacked_by (take i lacks) (get_or lacks i d ∷ [])))

pub any_in_map : {A B : Type 0} (p : B → Bool) (f : A → B) (xs : List A) → list_any p (map f xs) ≡ list_any (λ x. p (f x)) xs
any_in_map p f [] = refl
any_in_map p f (x ∷ xs) = ap (λ (b : Bool). p (f x) || b) (any_in_map p f xs)
