-- The first name that is no licensee's.
use Rattle.std.proofs.Common.{refl, ◌≡◌, ℕ, ◌+◌, ◌<◌, suc, List, [], ◌∷◌, ◌++◌, length, map, take, drop, drop-cons, ◌∙◌, ap, sym, subst, get_or}
use Rattle.std.specs.Borrow.{Bor}
use Rattle.std.specs.List.{AllZip}
use Rattle.std.specs.Str.{trim}
use Rattle.std.proofs.lemmas.List.{map-append, take_more, take-append-drop}
use Rattle.spdx_requirement.specs.Items.{Requirement}
use Rattle.spdx_requirement.specs.Rows.{Rows}
use Rattle.spdx_lexer.specs.Faults.{fault_of}
use Rattle.spdx_licensee.specs.LicenseeText.{IsLicenseeFault, Names}
use Rattle.choice_program.specs.declared.choosing.ChoiceTrouble.{ChoiceTrouble}
use Rattle.choice_program.specs.declared.choosing.ChoiceTrouble.TheVariants as trouble
use Rattle.choice_program.specs.Licensees.{IsNoLicensee, IsNotNamed, name_in}

zip_push : {A B : Type 0} (R : A → B → Type 0) (xs : List A) (ys : List B) (x : A) (y : B) → AllZip R xs ys → R x y → AllZip R (xs ++ x ∷ []) (ys ++ y ∷ [])
zip_push R [] [] x y h r = (r, h)
zip_push R [] (b ∷ ys) x y h r = absurd h
zip_push R (a ∷ xs) [] x y h r = absurd h
zip_push R (a ∷ xs) (b ∷ ys) x y h r = (h.0, zip_push R xs ys x y h.1 r)

-- one place more of a view of the first list
pub one_more : {A K B : Type 0} (R : K → B → Type 0) (f : A → K) (xs : List A) (i : ℕ) (d x : A) (ys new : List B) (y : B)
    → AllZip R (map f (take i xs)) ys → i < length xs → x ≡ get_or xs i d → R (f x) y → new ≡ ys ++ y ∷ [] → AllZip R (map f (take (i + 1) xs)) new
one_more {A} {K} {B} R f xs i d x ys new y h lt is r e =
    let next : map f (take (i + 1) xs) ≡ map f (take i xs) ++ f x ∷ [] =
    ap (map f) (take_more xs i d lt) ∙ map-append f (take i xs) (get_or xs i d ∷ []) ∙ ap (λ (z : A). map f (take i xs) ++ f z ∷ []) (sym is) in
    subst (λ (z : List B). AllZip R (map f (take (i + 1) xs)) z) (sym e) (subst (λ (z : List K). AllZip R z (ys ++ y ∷ [])) (sym next) (zip_push R (map f (take i xs)) ys (f x) y h r))

parted : {A K : Type 0} (f : A → K) (xs : List A) (i : ℕ) (x : A) → drop i xs ≡ x ∷ drop (suc i) xs → map f xs ≡ map f (take i xs) ++ f x ∷ map f (drop (suc i) xs)
parted {A} f xs i x e =
    ap (map f) (sym (take-append-drop i xs)) ∙ map-append f (take i xs) (drop i xs) ∙ ap (λ (z : List A). map f (take i xs) ++ map f z) e

pub first_unnamed : (c : Rows) (names : List (Bor (List ℕ))) (i : ℕ) (d : Bor (List ℕ)) (licensees : List Requirement) (t : ChoiceTrouble)
    → AllZip (Names c) (map name_in (take i names)) licensees → i < length names → IsNotNamed c (name_in (get_or names i d)) t → IsNoLicensee c (map name_in names) t
first_unnamed c names i d licensees (trouble.NoLicensee n r) h lt told =
    let x = get_or names i d in
    record {
      before = map name_in (take i names);
      after = map name_in (drop (suc i) names);
      licensees = licensees;
      span = told.1;
      stands = parted name_in names i x (drop-cons names i d lt) ∙ ap (λ (z : List ℕ). map name_in (take i names) ++ z ∷ map name_in (drop (suc i) names)) (sym told.0);
      accepted = h;
      refused = subst (λ (z : List ℕ). IsLicenseeFault c z (fault_of r) told.1) (sym told.0) told.2;
    }
first_unnamed c names i d licensees trouble.Memory h lt told = tt
first_unnamed c names i d licensees (trouble.NoChoices us) h lt told = absurd told
first_unnamed c names i d licensees (trouble.NoneTogether w) h lt told = absurd told
first_unnamed c names i d licensees (trouble.Policy t) h lt told = absurd told

pub named_all : (ns : List (Bor (List ℕ))) → map name_in ns ≡ map trim (map (λ (x : Bor (List ℕ)). x.now) ns)
named_all [] = refl
named_all (n ∷ ns) = ap (λ (z : List (List ℕ)). trim n.now ∷ z) (named_all ns)
