-- The rows of a report, and the judgements, one package more.
use Rattle.std.proofs.Common.{◌≡◌, ℕ, zero, suc, ◌+◌, ◌<◌, ◌⊎◌, inl, inr, List, [], ◌∷◌, ◌++◌, Option, Some, None, length, take, refl, sym, ◌∙◌, ap, subst, get_or}
use Rattle.std.specs.Prelude.{slice_get, string_bytes, All, Contains}
use Rattle.std.specs.List.{AllZip}
use Rattle.std.proofs.lemmas.List.{take_more}
use Rattle.std.proofs.lemmas.List.Elements.{All-push, All-nil, All-get_or, All-same, Contains-get_or}
use Rattle.std.proofs.lemmas.Option.{slice_get_within, get_or_from_slice_get}
use Rattle.spdx_requirement.specs.Rows.{Rows}
use Rattle.spdx_policy.specs.Rules.{Rules}
use Rattle.spdx_gate.specs.declared.package.Package.{Package}
use Rattle.spdx_gate.specs.declared.package.Verdict.TheVariants as verdict
use Rattle.spdx_gate.specs.declared.judgement.Outcome.{Outcome}
use Rattle.spdx_gate.specs.declared.judgement.Outcome.TheVariants as outcome
use Rattle.spdx_gate.specs.declared.judgement.Judgement.{Judgement}
use Rattle.spdx_gate.specs.declared.report.Row.{Row}
use Rattle.spdx_gate.specs.Judging.{IsOutcome}
use Rattle.spdx_gate.specs.Reports.{tables_of, text_of, clarified_by, IsVerdictOfText, IsRight, IsAt, IsPlaceOf, IsRow, IsAsked, IsOf, AreDistinct, outcome_verdict}
use Rattle.spdx_gate.specs.Benches.{IsUnknown, AddsOne, Adds, AddsOf, AddsFor}
use Rattle.spdx_gate.proofs.Benches.{distinct_more, distinct_none}

get_kept : {X : Type 0} (xs ys : List X) (k : ℕ) (x : X) → slice_get xs k ≡ Some x → slice_get (xs ++ ys) k ≡ Some x
get_kept [] ys k x e = let bad : None ≡ Some x = e in cc
get_kept (z ∷ xs) ys zero x e = e
get_kept (z ∷ xs) ys (suc k) x e = get_kept xs ys k x e

place_kept : (js more : List Judgement) (tables : List ℕ) (text : Option (List ℕ)) (place : Option ℕ) → IsPlaceOf js tables text place → IsPlaceOf (js ++ more) tables text place
place_kept js more tables None place h = h
place_kept js more tables (Some text) None h = h
place_kept js more tables (Some text) (Some k) h = record { judgement = h.judgement; there = get_kept js more k h.judgement h.there; is_of = h.is_of }

row_kept : (c : Rows) (p : Rules) (js more : List Judgement) (x : Package) (row : Row) → IsRow c p js x row → IsRow c p (js ++ more) x row
row_kept c p js more x row h = record {
  verdict = h.verdict;
  exceptions = h.exceptions;
  clarification = h.clarification;
  judgement = place_kept js more (tables_of p x) (text_of p x) row.judgement h.judgement;
}

rows_kept : (c : Rows) (p : Rules) (js more : List Judgement) (xs : List Package) (rows : List Row) → AllZip (IsRow c p js) xs rows → AllZip (IsRow c p (js ++ more)) xs rows
rows_kept c p js more [] [] h = h
rows_kept c p js more [] (r ∷ rs) h = h
rows_kept c p js more (x ∷ xs) [] h = h
rows_kept c p js more (x ∷ xs) (r ∷ rs) h = (row_kept c p js more x r h.0, rows_kept c p js more xs rs h.1)

zip_push : {A B : Type 0} (R : A → B → Type 0) (xs : List A) (ys : List B) (x : A) (y : B) → AllZip R xs ys → R x y → AllZip R (xs ++ x ∷ []) (ys ++ y ∷ [])
zip_push R [] [] x y h r = (r, h)
zip_push R [] (b ∷ ys) x y h r = absurd h
zip_push R (a ∷ xs) [] x y h r = absurd h
zip_push R (a ∷ xs) (b ∷ ys) x y h r = (h.0, zip_push R xs ys x y h.1 r)

-- one more judgement, of a package
pub record More (c : Rows) (p : Rules) (tables : List ℕ) (text : Option (List ℕ)) (old new : List Judgement) : Type 0 where
  pub judgement : Judgement
  pub last : new ≡ old ++ judgement ∷ []
  pub right : IsRight c p judgement
  pub text_is : text ≡ Some (string_bytes judgement.text)
  pub tables_are : tables ≡ judgement.exceptions.items
  pub unknown : IsUnknown old judgement.exceptions.items (string_bytes judgement.text)

unknown_by : (js : List Judgement) (tables text : List ℕ) (j : Judgement) → IsOf tables text j → IsUnknown js tables text → IsUnknown js j.exceptions.items (string_bytes j.text)
unknown_by js tables text j is_of none =
    subst (λ (z : List ℕ). IsUnknown js j.exceptions.items z) (sym is_of.text_is) (subst (λ (z : List ℕ). IsUnknown js z text) (sym is_of.exceptions_are) none)

more_or_same : (c : Rows) (p : Rules) (tables : List ℕ) (text : Option (List ℕ)) (old new : List Judgement) → AddsOf c p tables text old new → (new ≡ old) ⊎ More c p tables text old new
more_or_same c p tables None old new e = inl e
more_or_same c p tables (Some t) old new (inl e) = inl e
more_or_same c p tables (Some t) old new (inr a) = inr (record { judgement = a.judgement; last = a.last; right = a.right; text_is = ap Some (sym a.is_of.text_is); tables_are = sym a.is_of.exceptions_are; unknown = unknown_by old tables t a.judgement a.is_of a.unknown })

-- after i packages
pub record Reporting (c : Rows) (p : Rules) (xs : List Package) (i : ℕ) (js : List Judgement) (rows : List Row) : Type 0 where
  pub rows_are : AllZip (IsRow c p js) (take i xs) rows
  pub right : All (IsRight c p) js
  pub asked : All (IsAsked p xs) js
  pub distinct : AreDistinct js

pub begins : (c : Rows) (p : Rules) (xs : List Package) (js : List Judgement) (rows : List Row) → js ≡ [] → rows ≡ [] → Reporting c p xs 0 js rows
begins c p xs js rows e f = record {
  rows_are = subst (λ (z : List Row). AllZip (IsRow c p js) [] z) (sym f) nothing;
  right = All-same (IsRight c p) js [] e (All-nil (IsRight c p));
  asked = All-same (IsAsked p xs) js [] e (All-nil (IsAsked p xs));
  distinct = subst AreDistinct (sym e) distinct_none;
}
  where
    nothing : AllZip (IsRow c p js) [] []
    nothing = tt

pub one_more : (c : Rows) (p : Rules) (xs : List Package) (i : ℕ) (js new : List Judgement) (rows more : List Row) (d x : Package) (row : Row)
    → Reporting c p xs i js rows → i < length xs → x ≡ get_or xs i d → AddsFor c p x js new → IsRow c p new x row → more ≡ rows ++ row ∷ [] → Reporting c p xs (i + 1) new more
one_more c p xs i js new rows more d x row v lt is adds made e =
    let next : take (i + 1) xs ≡ take i xs ++ x ∷ [] = take_more xs i d lt ∙ ap (λ (z : Package). take i xs ++ z ∷ []) (sym is) in
    let here : Contains xs x = subst (Contains xs) (sym is) (Contains-get_or xs i d lt) in
    let push : AllZip (IsRow c p new) (take i xs) rows → AllZip (IsRow c p new) (take (i + 1) xs) more =
    λ h. subst (λ (z : List Row). AllZip (IsRow c p new) (take (i + 1) xs) z) (sym e) (subst (λ (z : List Package). AllZip (IsRow c p new) z (rows ++ row ∷ [])) (sym next) (zip_push (IsRow c p new) (take i xs) rows x row h made)) in
    elim (more_or_same c p (tables_of p x) (text_of p x) js new adds) [
      | inl same ↦ record {
        rows_are = push (subst (λ (z : List Judgement). AllZip (IsRow c p z) (take i xs) rows) (sym same) v.rows_are);
        right = All-same (IsRight c p) new js same v.right;
        asked = All-same (IsAsked p xs) new js same v.asked;
        distinct = subst AreDistinct (sym same) v.distinct;
      }
      | inr m ↦ record {
        rows_are = push (subst (λ (z : List Judgement). AllZip (IsRow c p z) (take i xs) rows) (sym m.last) (rows_kept c p js (m.judgement ∷ []) (take i xs) rows v.rows_are));
        right = All-same (IsRight c p) new (js ++ m.judgement ∷ []) m.last (All-push (IsRight c p) js m.judgement v.right m.right);
        asked = All-same (IsAsked p xs) new (js ++ m.judgement ∷ []) m.last (All-push (IsAsked p xs) js m.judgement v.asked (x, here, m.text_is, m.tables_are));
        distinct = distinct_more js new m.judgement m.judgement.exceptions.items (string_bytes m.judgement.text) m.last v.distinct (record { text_is = refl; exceptions_are = refl }) m.unknown;
      }
    ]

-- the judgements stay right
pub right_after : (c : Rows) (p : Rules) (tables text : List ℕ) (old new : List Judgement) → Adds c p tables text old new → All (IsRight c p) old → All (IsRight c p) new
right_after c p tables text old new (inl e) h = All-same (IsRight c p) new old e h
right_after c p tables text old new (inr a) h = All-same (IsRight c p) new (old ++ a.judgement ∷ []) a.last (All-push (IsRight c p) old a.judgement h a.right)

-- the verdict that comes out of a text
text_verdict : (c : Rows) (p : Rules) (tables text : List ℕ) (o : Outcome) → IsOutcome c p tables text o → IsVerdictOfText c p tables (Some text) (outcome_verdict o)
text_verdict c p tables text (outcome.Judged j) h = inr (h.parsed.tree, (h.parsed.read, h.parsed.reads, h.parsed.meant), h.decided.verdict_is)
text_verdict c p tables text (outcome.Unreadable f) h = inl (h.no_tree, refl)

pub place_within : (js : List Judgement) (tables text : List ℕ) (k : ℕ) → IsAt js tables text k → k < length js
place_within js tables text k h = slice_get_within js k h.judgement h.there

pub unstated_row : (c : Rows) (p : Rules) (js : List Judgement) (x : Package) (row : Row) → text_of p x ≡ None → row.verdict ≡ verdict.Unstated p.unstated
    → row.exceptions.items ≡ tables_of p x → row.clarification ≡ clarified_by p x → row.judgement ≡ None → IsRow c p js x row
unstated_row c p js x row e v f g h = record {
  verdict = subst (λ (o : Option (List ℕ)). IsVerdictOfText c p (tables_of p x) o row.verdict) (sym e) v;
  exceptions = f;
  clarification = g;
  judgement = subst (λ (o : Option (List ℕ)). IsPlaceOf js (tables_of p x) o row.judgement) (sym e) h;
}

-- what a judgement at a place says
pub verdict_at : (c : Rows) (p : Rules) (js : List Judgement) (tables text : List ℕ) (k : ℕ) (j : Judgement) → All (IsRight c p) js → IsAt js tables text k → j ≡ get_or js k j → IsVerdictOfText c p tables (Some text) (outcome_verdict j.outcome)
verdict_at c p js tables text k j right at is =
    let same : j ≡ at.judgement = is ∙ get_or_from_slice_get js k at.judgement j at.there in
    let there : IsRight c p at.judgement = subst (IsRight c p) (sym is ∙ same) (All-get_or (IsRight c p) js k j (place_within js tables text k at) right) in
    let texts : IsOutcome c p at.judgement.exceptions.items text at.judgement.outcome = subst (λ (t : List ℕ). IsOutcome c p at.judgement.exceptions.items t at.judgement.outcome) at.is_of.text_is there in
    let whole : IsOutcome c p tables text at.judgement.outcome = subst (λ (z : List ℕ). IsOutcome c p z text at.judgement.outcome) at.is_of.exceptions_are texts in
    subst (λ (z : Judgement). IsVerdictOfText c p tables (Some text) (outcome_verdict z.outcome)) (sym same) (text_verdict c p tables text at.judgement.outcome whole)

pub judged_row : (c : Rows) (p : Rules) (js : List Judgement) (x : Package) (row : Row) (tables text : List ℕ) (k : ℕ) → text_of p x ≡ Some text → tables ≡ tables_of p x
    → IsVerdictOfText c p tables (Some text) row.verdict → row.exceptions.items ≡ tables → row.clarification ≡ clarified_by p x → row.judgement ≡ Some k → IsAt js tables text k → IsRow c p js x row
judged_row c p js x row tables text k e f v g h place at =
    let at_place : IsPlaceOf js tables (Some text) row.judgement = subst (IsPlaceOf js tables (Some text)) (sym place) at in
    record {
      verdict = subst (λ (o : Option (List ℕ)). IsVerdictOfText c p (tables_of p x) o row.verdict) (sym e) (subst (λ (z : List ℕ). IsVerdictOfText c p z (Some text) row.verdict) f v);
      exceptions = g ∙ f;
      clarification = h;
      judgement = subst (λ (o : Option (List ℕ)). IsPlaceOf js (tables_of p x) o row.judgement) (sym e) (subst (λ (z : List ℕ). IsPlaceOf js z (Some text) row.judgement) f at_place);
    }

-- what is done for a text is done for its package
pub adds_for : (c : Rows) (p : Rules) (x : Package) (tables text : List ℕ) (old new : List Judgement) → text_of p x ≡ Some text → tables ≡ tables_of p x → Adds c p tables text old new → AddsFor c p x old new
adds_for c p x tables text old new e f h =
    subst (λ (o : Option (List ℕ)). AddsOf c p (tables_of p x) o old new) (sym e) (subst (λ (z : List ℕ). AddsOf c p z (Some text) old new) f h)

pub adds_none : (c : Rows) (p : Rules) (x : Package) (js : List Judgement) → text_of p x ≡ None → AddsFor c p x js js
adds_none c p x js e = subst (λ (o : Option (List ℕ)). AddsOf c p (tables_of p x) o js js) (sym e) refl

get_last : {X : Type 0} (xs : List X) (x : X) → slice_get (xs ++ x ∷ []) (length xs) ≡ Some x
get_last [] x = refl
get_last (y ∷ xs) x = get_last xs x

-- a judgement is put last
pub put_one : (c : Rows) (p : Rules) (tables text : List ℕ) (js new : List Judgement) (j : Judgement) → new ≡ js ++ j ∷ [] → string_bytes j.text ≡ text → j.exceptions.items ≡ tables
    → IsOutcome c p tables text j.outcome → IsUnknown js tables text → AddsOne c p tables text js new
put_one c p tables text js new j e f g h none = record {
  judgement = j;
  last = e;
  is_of = record { text_is = f; exceptions_are = g };
  right = subst (λ (t : List ℕ). IsOutcome c p j.exceptions.items t j.outcome) (sym f) (subst (λ (z : List ℕ). IsOutcome c p z text j.outcome) (sym g) h);
  unknown = none;
}

-- where the number of the others is its place
pub put_at : (c : Rows) (p : Rules) (tables text : List ℕ) (js new : List Judgement) (k : ℕ) → AddsOne c p tables text js new → k ≡ length js → IsAt new tables text k
put_at c p tables text js new k a e = record {
  judgement = a.judgement;
  there = ap (λ (z : List Judgement). slice_get z k) a.last ∙ ap (slice_get (js ++ a.judgement ∷ [])) e ∙ get_last js a.judgement;
  is_of = a.is_of;
}
