-- Texts of several things, one more.
use Rattle.std.proofs.Common.{◌≡◌, ℕ, ◌+◌, ◌<◌, List, [], ◌∷◌, ◌++◌, length, map, take, ◌∙◌, ap, sym, subst, get_or}
use Rattle.std.proofs.lemmas.List.{append-nil, append_assoc, map-append, take_more}
use Rattle.list_told.specs.Texts.{AreTexts, none, one}

pushed : {A : Type 0} {P : A → List ℕ → Type 0} (x : A) (piece : List ℕ) {xs : List A} {text : List ℕ}
    → AreTexts P xs text → P x piece → AreTexts P (xs ++ x ∷ []) (text ++ piece)
pushed {A} {P} x piece none is = subst (λ (t : List ℕ). AreTexts P (x ∷ []) t) (append-nil piece) (one is none)
pushed {A} {P} y piece (one {x} {xs} {text} {rest} h more) is =
    subst (λ (t : List ℕ). AreTexts P (x ∷ (xs ++ y ∷ [])) t) (sym (append_assoc text rest piece)) (one h (pushed y piece more is))

pub none_yet : {A : Type 0} (P : A → List ℕ → Type 0) (text : List ℕ) → text ≡ [] → AreTexts P [] text
none_yet P text e = subst (λ (t : List ℕ). AreTexts P [] t) (sym e) none

pub one_more : {A B : Type 0} (P : A → List ℕ → Type 0) (shown : B → A) (xs : List B) (i : ℕ) (d : B) (old piece new : List ℕ)
    → AreTexts P (map shown (take i xs)) old → i < length xs → P (shown (get_or xs i d)) piece → new ≡ old ++ piece
    → AreTexts P (map shown (take (i + 1) xs)) new
one_more {A} P shown xs i d old piece new h lt is e =
    let x = get_or xs i d in
    let next : map shown (take (i + 1) xs) ≡ map shown (take i xs) ++ shown x ∷ [] =
    ap (map shown) (take_more xs i d lt) ∙ map-append shown (take i xs) (x ∷ []) in
    subst (λ (t : List ℕ). AreTexts P (map shown (take (i + 1) xs)) t) (sym e)
    (subst (λ (z : List A). AreTexts P z (old ++ piece)) (sym next) (pushed (shown x) piece h is))
