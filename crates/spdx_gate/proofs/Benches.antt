-- Judgements that are there once, each with its place under its key.
use Rattle.std.proofs.Common.{◌≡◌, ℕ, zero, suc, ◌<◌, ◌≤◌, ◌⊎◌, inl, inr, Bool, true, false, cond, List, [], ◌∷◌, ◌++◌, Some, None, String, Vec, Global, length, get_or, refl, sym, ◌∙◌, ap, subst, arith}
use Rattle.std.specs.Prelude.{slice_get, Contains, bytes_eq}
use Rattle.std.specs.BTreeMap.{BTreeMap}
use Rattle.std.proofs.lemmas.List.{get_or_default}
use Rattle.std.proofs.lemmas.List.Elements.{Contains-append_left, Contains-push}
use Rattle.std.proofs.lemmas.Slice.Eq.{bytes_eq-Decides}
use Rattle.spdx_gate.specs.declared.judgement.Judgement.{Judgement}
use Rattle.spdx_gate.specs.Reports.{IsOf, IsAt, AreDistinct}
use Rattle.spdx_gate.specs.Benches.{IsUnknown, key_of, places_at, Notes, IsIndex}

-- ---- one judgement more

get_cases : {X : Type 0} (xs : List X) (x y : X) (k : ℕ) → slice_get (xs ++ x ∷ []) k ≡ Some y → (slice_get xs k ≡ Some y) ⊎ ((k ≡ length xs) × (x ≡ y))
get_cases [] x y zero e = let same : x ≡ y = cc in inr (refl, same)
get_cases [] x y (suc k) e = let bad : None ≡ Some y = e in absurd (cc)
get_cases (z ∷ xs) x y zero e = inl e
get_cases (z ∷ xs) x y (suc k) e = more (get_cases xs x y k e)
  where
    more : (slice_get xs k ≡ Some y) ⊎ ((k ≡ length xs) × (x ≡ y)) → (slice_get (z ∷ xs) (suc k) ≡ Some y) ⊎ ((suc k ≡ length (z ∷ xs)) × (x ≡ y))
    more (inl h) = inl h
    more (inr h) = inr (ap suc h.0, h.1)

at_cases : (js : List Judgement) (j : Judgement) (tables text : List ℕ) (k : ℕ) → IsAt (js ++ j ∷ []) tables text k → IsAt js tables text k ⊎ ((k ≡ length js) × IsOf tables text j)
at_cases js j tables text k h = by (get_cases js j h.judgement k h.there)
  where
    by : (slice_get js k ≡ Some h.judgement) ⊎ ((k ≡ length js) × (j ≡ h.judgement)) → IsAt js tables text k ⊎ ((k ≡ length js) × IsOf tables text j)
    by (inl e) = inl (record { judgement = h.judgement; there = e; is_of = h.is_of })
    by (inr e) = inr (e.0, subst (IsOf tables text) (sym e.1) h.is_of)

-- a judgement is of one text under one list of exceptions
both_of : (tables text others other : List ℕ) (j i : Judgement) → IsOf tables text j → IsOf others other j → IsOf others other i → IsOf tables text i
both_of tables text others other j i h k of = record {
  text_is = of.text_is ∙ sym k.text_is ∙ h.text_is;
  exceptions_are = of.exceptions_are ∙ sym k.exceptions_are ∙ h.exceptions_are;
}

pub distinct_more : (js new : List Judgement) (j : Judgement) (tables text : List ℕ) → new ≡ js ++ j ∷ [] → AreDistinct js → IsOf tables text j → IsUnknown js tables text → AreDistinct new
distinct_more js new j tables text last apart is_of none = subst AreDistinct (sym last) (λ ts t i k at other. by ts t i k (at_cases js j ts t i at) (at_cases js j ts t k other))
  where
    again : (ts t : List ℕ) (i : ℕ) → IsAt js ts t i → IsOf ts t j → ⊥
    again ts t i at of = none i (record { judgement = at.judgement; there = at.there; is_of = both_of tables text ts t j at.judgement is_of of at.is_of })

    by : (ts t : List ℕ) (i k : ℕ) → IsAt js ts t i ⊎ ((i ≡ length js) × IsOf ts t j) → IsAt js ts t k ⊎ ((k ≡ length js) × IsOf ts t j) → i ≡ k
    by ts t i k (inl a) (inl b) = apart ts t i k a b
    by ts t i k (inl a) (inr b) = absurd (again ts t i a b.1)
    by ts t i k (inr a) (inl b) = absurd (again ts t k b a.1)
    by ts t i k (inr a) (inr b) = a.0 ∙ sym b.0

pub distinct_none : AreDistinct []
distinct_none = λ tables text i k at other. let bad : None ≡ Some at.judgement = at.there in absurd (cc)

-- ---- the places under keys

kept_there : (b : Bool) (xs ys : List ℕ) (p k : ℕ) → ys ≡ cond b (xs ++ p ∷ []) xs → Contains xs k → Contains ys k
kept_there true xs ys p k e h = subst (λ (z : List ℕ). Contains z k) (sym e) (Contains-append_left xs (p ∷ []) k h)
kept_there false xs ys p k e h = subst (λ (z : List ℕ). Contains z k) (sym e) h

put_there : (b : Bool) (xs ys : List ℕ) (p : ℕ) → b ≡ true → ys ≡ cond b (xs ++ p ∷ []) xs → Contains ys p
put_there true xs ys p is e = subst (λ (z : List ℕ). Contains z p) (sym e) (Contains-push xs p)
put_there false xs ys p is e = absurd (cc)

pub index_more : (old new : BTreeMap (String Global) (Vec ℕ Global)) (js more : List Judgement) (j : Judgement) (tables text : List ℕ) (place : ℕ) → more ≡ js ++ j ∷ [] → place ≡ length js
    → IsIndex old js → IsOf tables text j → Notes old (key_of tables text) place new → IsIndex new more
index_more old new js more j tables text place last at_end index is_of notes = subst (IsIndex new) (sym last) (λ ts t k at. by ts t k (at_cases js j ts t k at))
  where
    by : (ts t : List ℕ) (k : ℕ) → IsAt js ts t k ⊎ ((k ≡ length js) × IsOf ts t j) → Contains (places_at new (key_of ts t)) k
    by ts t k (inl a) = kept_there (bytes_eq (key_of ts t) (key_of tables text)) (places_at old (key_of ts t)) (places_at new (key_of ts t)) place k (notes (key_of ts t)) (index ts t k a)
    by ts t k (inr b) =
        let key = key_of tables text in
        let same : key ≡ key_of ts t = ap (λ (z : List ℕ). key_of z text) (sym is_of.exceptions_are ∙ b.1.exceptions_are) ∙ ap (key_of ts) (sym is_of.text_is ∙ b.1.text_is) in
        let here : Contains (places_at new key) place = put_there (bytes_eq key key) (places_at old key) (places_at new key) place ((bytes_eq-Decides key key).1 refl) (notes key) in
        let there : Contains (places_at new key) k = subst (Contains (places_at new key)) (at_end ∙ sym b.0) here in
        subst (λ (z : List ℕ). Contains (places_at new z) k) same there

pub index_none : (by_key : BTreeMap (String Global) (Vec ℕ Global)) → IsIndex by_key []
index_none by_key = λ tables text k at. let bad : None ≡ Some at.judgement = at.there in absurd (cc)

-- what stands at none of the places under its key is nowhere
pub nowhere : (js : List Judgement) (tables text places : List ℕ) (n : ℕ) → length places ≤ n → ((k : ℕ) → IsAt js tables text k → Contains places k)
    → ((i : ℕ) → i < n → IsAt js tables text (get_or places i 0) → ⊥) → IsUnknown js tables text
nowhere js tables text places n all index none = λ k at.
    let w = index k at in
    let same : get_or places w.0 0 ≡ k = get_or_default places w.0 0 k w.1 ∙ w.2 in
    let lt : w.0 < n = omega (arith, w.1, all) in
    none w.0 lt (subst (IsAt js tables text) (sym same) at)
