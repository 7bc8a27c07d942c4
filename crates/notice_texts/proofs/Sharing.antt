-- One file more, whose text is new or is there already.
use Rattle.std.proofs.Common.{◌≡◌, ℕ, zero, suc, Bool, true, false, cond, ◌||◌, List, [], ◌∷◌, ◌++◌, Option, Some, None, Contains, map, refl, sym, ap, ◌∙◌, subst, arith}
use Rattle.std.specs.Prelude.{not, bytes_eq, filter, option_map}
use Rattle.std.proofs.lemmas.Cmp.{nat_list_eq_equiv}
use Rattle.std.proofs.lemmas.List.{append-nil, map-append}
use Rattle.std.proofs.lemmas.List.Elements.{filter-append}
use Rattle.std.proofs.lemmas.List.Folds.{list_any-append}
use Rattle.notice_texts.specs.declared.texts.Holder.{Holder}
use Rattle.notice_texts.specs.declared.texts.SharedText.{SharedText}
use Rattle.notice_texts.specs.Shared.{Held, Shared, held, shared_of}
use Rattle.notice_texts.specs.Entries.{Entry, Holders, holders_at, holders_under, some_of, is_met, firsts, shared_by, Takes, HasRest}

or_false : (b : Bool) → (b || false) ≡ b
or_false true = refl
or_false false = refl

met_more : (met : List Entry) (e : Entry) (q : List ℕ) → is_met (met ++ e ∷ []) q ≡ (is_met met q || bytes_eq e.key q)
met_more met e q =
    list_any-append (λ (f : Entry). bytes_eq f.key q) met (e ∷ []) ∙ ap (λ (b : Bool). is_met met q || b) (or_false (bytes_eq e.key q))

rest_so : (a b : Bool) (x : Option (List Holder)) (y : Option (List Held)) → option_map (map held) x ≡ cond a None y → option_map (map held) (cond b None x) ≡ cond (a || b) None y
rest_so true true x y h = refl
rest_so false true x y h = refl
rest_so true false x y h = h
rest_so false false x y h = h

pub rest_more : (m n : Holders) (es met : List Entry) (e : Entry) → HasRest m es met → Takes m e.key n → HasRest n es (met ++ e ∷ [])
rest_more m n es met e has taken q =
    ap (option_map (map held)) (taken q)
    ∙ rest_so (is_met met q) (bytes_eq e.key q) (holders_at m q) (some_of (holders_under q es)) (has q)
    ∙ ap (λ (b : Bool). cond b None (some_of (holders_under q es))) (sym (met_more met e q))

-- ---- the first of each text

first_more : (met : List Entry) (e : Entry) → firsts (met ++ e ∷ []) ≡ firsts met ++ cond (is_met met e.key) [] (e ∷ [])
first_more [] e = refl
first_more (f ∷ met) e =
    ap (λ (es : List Entry). f ∷ filter (λ (g : Entry). not (bytes_eq f.key g.key)) es) (first_more met e)
    ∙ ap (λ (es : List Entry). f ∷ es) (filter-append (λ (g : Entry). not (bytes_eq f.key g.key)) (firsts met) (cond (is_met met e.key) [] (e ∷ [])))
    ∙ ap (λ (es : List Entry). f ∷ filter (λ (g : Entry). not (bytes_eq f.key g.key)) (firsts met) ++ es) (last (is_met met e.key))
  where
    keep : (b : Bool) → cond (not b) (e ∷ []) [] ≡ cond (b || false) [] (e ∷ [])
    keep true = refl
    keep false = refl

    gone : (b : Bool) → [] ≡ cond (b || true) [] (e ∷ [])
    gone true = refl
    gone false = refl

    last : (a : Bool) → filter (λ (g : Entry). not (bytes_eq f.key g.key)) (cond a [] (e ∷ [])) ≡ cond (bytes_eq f.key e.key || a) [] (e ∷ [])
    last true = gone (bytes_eq f.key e.key)
    last false = keep (bytes_eq f.key e.key)

pub new_pushed : (es met : List Entry) (e : Entry) (old now : List SharedText) (s : SharedText) → now ≡ old ++ s ∷ [] → map shared_of old ≡ map (shared_by es) (firsts met) → is_met met e.key ≡ false → shared_of s ≡ shared_by es e →
    map shared_of now ≡ map (shared_by es) (firsts (met ++ e ∷ []))
new_pushed es met e old now s pushed was new is =
    ap (map shared_of) pushed ∙ map-append shared_of old (s ∷ []) ∙ ap (λ (ss : List Shared). ss ++ shared_of s ∷ []) was
    ∙ ap (λ (x : Shared). map (shared_by es) (firsts met) ++ x ∷ []) is
    ∙ sym (map-append (shared_by es) (firsts met) (e ∷ []))
    ∙ ap (λ (b : Bool). map (shared_by es) (firsts met ++ cond b [] (e ∷ []))) (sym new)
    ∙ ap (map (shared_by es)) (sym (first_more met e))

pub old_left : (es met : List Entry) (e : Entry) (old : List SharedText) → map shared_of old ≡ map (shared_by es) (firsts met) → is_met met e.key ≡ true →
    map shared_of old ≡ map (shared_by es) (firsts (met ++ e ∷ []))
old_left es met e old was there =
    was ∙ ap (map (shared_by es)) (sym (append-nil (firsts met)))
    ∙ ap (λ (b : Bool). map (shared_by es) (firsts met ++ cond b [] (e ∷ []))) (sym there)
    ∙ ap (map (shared_by es)) (sym (first_more met e))

-- ---- what is taken says whether the text was met

abbrev some : {X : Type 0} → List X → Bool
some [] = false
some (x ∷ xs) = true

items_of : (x : Option (List Held)) → List Held
items_of None = []
items_of (Some hs) = hs

pub found_new : (a : Bool) (hs x : List Held) → Some x ≡ cond a None (some_of hs) → a ≡ false
found_new true hs x h = absurd (let bad : Some x ≡ None = h in cc)
found_new false hs x h = refl

pub found_all : (a : Bool) (hs x : List Held) → Some x ≡ cond a None (some_of hs) → x ≡ hs
unfolding items_of
found_all true hs x h = absurd (let bad : Some x ≡ None = h in cc)
found_all false [] x h = absurd (let bad : Some x ≡ None = h in cc)
found_all false (y ∷ hs) x h = ap items_of h

pub found_old : (a : Bool) (hs : List Held) → (hs ≡ [] → ⊥) → None ≡ cond a None (some_of hs) → a ≡ true
found_old true hs some h = refl
found_old false [] some h = absurd (some refl)
found_old false (y ∷ hs) some h = absurd (let bad : None ≡ Some (y ∷ hs) = h in cc)

reflexive : (x : List ℕ) → bytes_eq x x ≡ true
reflexive x = nat_list_eq_equiv.refl x

under_so : (b : Bool) (h : Entry) (es : List Entry) → (b ≡ true) → map (λ (f : Entry). f.text.holder) (cond b (h ∷ es) es) ≡ [] → ⊥
under_so true h es e bad = let worse : h.text.holder ∷ map (λ (f : Entry). f.text.holder) es ≡ [] = bad in cc
under_so false h es e bad = let worse : false ≡ true = e in cc

under_more : (b : Bool) (h : Entry) (es : List Entry) → (map (λ (f : Entry). f.text.holder) es ≡ [] → ⊥) → map (λ (f : Entry). f.text.holder) (cond b (h ∷ es) es) ≡ [] → ⊥
under_more true h es some bad = let worse : h.text.holder ∷ map (λ (f : Entry). f.text.holder) es ≡ [] = bad in cc
under_more false h es some bad = some bad

pub under_some : (es : List Entry) (e : Entry) → Contains es e → holders_under e.key es ≡ [] → ⊥
under_some [] e h = absurd (omega (arith, h.1))
under_some (f ∷ es) e (zero, low, at) = under_so (bytes_eq e.key f.key) f (filter (λ (g : Entry). bytes_eq e.key g.key) es) (subst (λ (g : Entry). bytes_eq e.key g.key ≡ true) (sym at) (reflexive e.key))
under_some (f ∷ es) e (suc i, low, at) = under_more (bytes_eq e.key f.key) f (filter (λ (g : Entry). bytes_eq e.key g.key) es) (under_some es e (i, omega (arith, low), at))
