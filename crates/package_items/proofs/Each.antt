-- Items with what was had of them, one more.
use Rattle.std.proofs.Common.{◌≡◌, ℕ, ◌+◌, ◌<◌, List, [], ◌∷◌, ◌++◌, length, map, take, arith, ◌∙◌, ap, sym, refl, subst, get_or}
use Rattle.std.specs.List.{AllZip}
use Rattle.std.proofs.lemmas.List.{map-append, take_more}
use Rattle.package_items.specs.Each.{AreHad, none, had, lacked}

pub push_had : {A B F : Type 0} (Is : A → B → Type 0) (IsNot : A → F → Type 0) (x : A) (y : B) {xs : List A} {ys : List B} {fs : List F}
    → AreHad Is IsNot xs ys fs → Is x y → AreHad Is IsNot (xs ++ x ∷ []) (ys ++ y ∷ []) fs
push_had Is IsNot x y none is = had is none
push_had Is IsNot x y (had h rest) is = had h (push_had Is IsNot x y rest is)
push_had Is IsNot x y (lacked h rest) is = lacked h (push_had Is IsNot x y rest is)

pub push_lacked : {A B F : Type 0} (Is : A → B → Type 0) (IsNot : A → F → Type 0) (x : A) (f : F) {xs : List A} {ys : List B} {fs : List F}
    → AreHad Is IsNot xs ys fs → IsNot x f → AreHad Is IsNot (xs ++ x ∷ []) ys (fs ++ f ∷ [])
push_lacked Is IsNot x f none is = lacked is none
push_lacked Is IsNot x f (had h rest) is = had h (push_lacked Is IsNot x f rest is)
push_lacked Is IsNot x f (lacked h rest) is = lacked h (push_lacked Is IsNot x f rest is)

pub more_had : {A B F : Type 0} (Is : A → B → Type 0) (IsNot : A → F → Type 0) (x : A) (y : B) (xs : List A) (ys new : List B) (fs same : List F)
    → AreHad Is IsNot xs ys fs → Is x y → new ≡ ys ++ y ∷ [] → same ≡ fs → AreHad Is IsNot (xs ++ x ∷ []) new same
more_had {A} {B} {F} Is IsNot x y xs ys new fs same h is e f =
    subst (λ (z : List B). AreHad Is IsNot (xs ++ x ∷ []) z same) (sym e) (subst (λ (z : List F). AreHad Is IsNot (xs ++ x ∷ []) (ys ++ y ∷ []) z) (sym f) (push_had Is IsNot x y h is))

pub more_lacked : {A B F : Type 0} (Is : A → B → Type 0) (IsNot : A → F → Type 0) (x : A) (f : F) (xs : List A) (ys same : List B) (fs new : List F)
    → AreHad Is IsNot xs ys fs → IsNot x f → same ≡ ys → new ≡ fs ++ f ∷ [] → AreHad Is IsNot (xs ++ x ∷ []) same new
more_lacked {A} {B} {F} Is IsNot x f xs ys same fs new h is e g =
    subst (λ (z : List B). AreHad Is IsNot (xs ++ x ∷ []) z new) (sym e) (subst (λ (z : List F). AreHad Is IsNot (xs ++ x ∷ []) ys z) (sym g) (push_lacked Is IsNot x f h is))

-- one place more of a view of some items
pub next : {A K S : Type 0} (P : List K → S → Type 0) (view : A → K) (xs : List A) (i : ℕ) (d x : A) (old new : S)
    → P (map view (take i xs)) old → i < length xs → x ≡ get_or xs i d → ((ks : List K) → P ks old → P (ks ++ view x ∷ []) new) → P (map view (take (i + 1) xs)) new
next {A} {K} P view xs i d x old new h lt is more =
    let e : map view (take (i + 1) xs) ≡ map view (take i xs) ++ view x ∷ [] =
    ap (map view) (take_more xs i d lt) ∙ map-append view (take i xs) (get_or xs i d ∷ []) ∙ ap (λ (z : A). map view (take i xs) ++ view z ∷ []) (sym is) in
    subst (λ (z : List K). P z new) (sym e) (more (map view (take i xs)) h)

-- where none has a fault, each has its value
pub whole_by : {A B F : Type 0} {Is : A → B → Type 0} {IsNot : A → F → Type 0} {xs : List A} {ys : List B} {fs : List F} → AreHad Is IsNot xs ys fs → fs ≡ [] → AllZip Is xs ys
whole_by none e = tt
whole_by (had h rest) e = (h, whole_by rest e)
whole_by {fs = f ∷ fs} (lacked h rest) e =
    let longer : length (f ∷ fs) ≡ 0 = ap length e in
    absurd (omega (arith, longer))

-- of other relations that follow from these
pub had_as : {A C B D F : Type 0} {Is : A → B → Type 0} {IsNot : A → F → Type 0} (Is2 : C → D → Type 0) (IsNot2 : C → F → Type 0) (f : B → D) {xs : List A} {ys : List B} {fs : List F} (zs : List C)
    → AllZip (λ z x. ((y : B) → Is x y → Is2 z (f y)) × ((e : F) → IsNot x e → IsNot2 z e)) zs xs → AreHad Is IsNot xs ys fs → AreHad Is2 IsNot2 zs (map f ys) fs
had_as Is2 IsNot2 f [] same none = none
had_as Is2 IsNot2 f (z ∷ zs) same none = absurd same
had_as Is2 IsNot2 f [] same (had h rest) = absurd same
had_as Is2 IsNot2 f (z ∷ zs) same (had {y = y} h rest) = had (same.0.0 y h) (had_as Is2 IsNot2 f zs same.1 rest)
had_as Is2 IsNot2 f [] same (lacked h rest) = absurd same
had_as Is2 IsNot2 f (z ∷ zs) same (lacked {f = e} h rest) = lacked (same.0.1 e h) (had_as Is2 IsNot2 f zs same.1 rest)

pub whole_of : {A B F : Type 0} {Is : A → B → Type 0} {IsNot : A → F → Type 0} {xs : List A} {ys : List B} {fs : List F} → AreHad Is IsNot xs ys fs → length fs ≡ 0 → AllZip Is xs ys
whole_of {fs = []} h e = whole_by h refl
whole_of {fs = f ∷ fs} h e = absurd (omega (arith, e))
