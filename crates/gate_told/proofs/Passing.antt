-- Where no package is refused nothing is told of any.
use Rattle.std.proofs.Common.{◌≡◌, ℕ, Bool, true, false, ◌||◌, ◌&&◌, List, [], ◌∷◌, ◌++◌, flat_map, map, refl, sym, ap, ◌∙◌}
use Rattle.std.proofs.lemmas.List.{append-nil}
use Rattle.std.specs.Prelude.{filter, not, if◌then◌else◌}
use Rattle.std.specs.List.{list_any}
use Rattle.finding_forms.specs.SarifLog.{log_text}
use Rattle.finding_forms.specs.declared.forms.Style.{Style}
use Rattle.gate_forms.specs.declared.reports.Report.{Report}
use Rattle.gate_forms.specs.declared.reports.Totals.{Totals}
use Rattle.gate_forms.specs.Human.{explained_text, human_text, refused_lines}
use Rattle.gate_forms.specs.Json.{json_line, json_lines}
use Rattle.gate_forms.specs.Known.{is_known}
use Rattle.gate_forms.specs.Lines.{github_line, github_text, short_line, short_text}
use Rattle.gate_forms.specs.Refusals.{also_line, is_same, refusals_from, refusals_text}
use Rattle.gate_forms.specs.Sarif.{LogReadsBack, result_of}
use Rattle.gate_forms.specs.Totals.{totals_text}
use Rattle.gate_told.specs.declared.forms.Format.{Format}
use Rattle.gate_told.specs.declared.forms.Format.TheVariants.{Human, Short, Json, Github, Sarif, Html}
use Rattle.gate_told.specs.Verdicts.{IsLog, are_gathered, explanations_text, is_any_named, is_any_refused, is_named, is_of_refusals, is_report_refused, log_line, new_of, people_text, refused_of, verdicts_text}

first_false : (a b : Bool) → (a || b) ≡ false → a ≡ false
first_false true b e = e
first_false false b e = refl

second_false : (a b : Bool) → (a || b) ≡ false → b ≡ false
second_false true true e = e
second_false true false e = refl
second_false false b e = e

-- no element passes the test
filter_none : {X : Type 0} (test : X → Bool) (xs : List X) → list_any test xs ≡ false → filter test xs ≡ []
filter_none test [] e = refl
filter_none test (x ∷ xs) e =
    ap (λ (b : Bool). if b then x ∷ filter test xs else filter test xs) (first_false (test x) (list_any test xs) e)
    ∙ filter_none test xs (second_false (test x) (list_any test xs) e)

nothing_of : (f : Report → List ℕ) → ((r : Report) → is_report_refused r ≡ false → f r ≡ []) → (rs : List Report) → is_any_refused rs ≡ false → flat_map f rs ≡ []
nothing_of f h [] e = refl
nothing_of f h (r ∷ rs) e =
    ap (λ (bs : List ℕ). bs ++ flat_map f rs) (h r (first_false (is_report_refused r) (is_any_refused rs) e))
    ∙ nothing_of f h rs (second_false (is_report_refused r) (is_any_refused rs) e)

kept : (b : Bool) (r : Report) (rs : List Report) → is_report_refused r ≡ false → is_any_refused rs ≡ false → is_any_refused (if b then r ∷ rs else rs) ≡ false
kept true r rs h k = ap (λ (b : Bool). b || is_any_refused rs) h ∙ k
kept false r rs h k = k

new_none : (rs : List Report) → is_any_refused rs ≡ false → is_any_refused (new_of rs) ≡ false
new_none [] e = refl
new_none (r ∷ rs) e =
    kept (not (is_known r)) r (new_of rs) (first_false (is_report_refused r) (is_any_refused rs) e) (new_none rs (second_false (is_report_refused r) (is_any_refused rs) e))

refusals_none : (style : Style) (earlier rs : List Report) → is_any_refused rs ≡ false → refusals_from style earlier rs ≡ []
refusals_none style earlier [] e = refl
refusals_none style earlier (r ∷ rs) e =
    ap
    (λ (b : Bool). (if b && not (list_any (is_same style r) earlier) then refused_lines style r ++ also_line (filter (is_same style r) rs) else []) ++ refusals_from style (earlier ++ r ∷ []) rs)
    (first_false (is_report_refused r) (is_any_refused rs) e)
    ∙ refusals_none style (earlier ++ r ∷ []) rs (second_false (is_report_refused r) (is_any_refused rs) e)

neither : (b : Bool) (xs ys : List ℕ) → xs ≡ [] → ys ≡ [] → (if b then xs else ys) ≡ []
neither true xs ys e f = e
neither false xs ys e f = f

people_none : (style : Style) (totals : Totals) (rs : List Report) → is_any_refused rs ≡ false → people_text style totals rs ≡ []
people_none style totals rs e =
    neither (are_gathered totals) (refusals_text style rs) (flat_map (human_text style) rs) (refusals_none style [] rs e)
    (nothing_of (human_text style) (λ r h. ap (λ (b : Bool). if b then refused_lines style r else []) h) rs e)

pub passing : (format : Format) (policy : List ℕ) (totals : Totals) (rs : List Report) → is_of_refusals format ≡ true → is_any_refused rs ≡ false → verdicts_text format policy totals rs ≡ verdicts_text format policy totals []
passing (Human style) policy totals rs of e =
    ap (λ (bs : List ℕ). bs ++ totals_text totals) (people_none style totals (new_of rs) (new_none rs e) ∙ sym (people_none style totals [] refl))
passing Short policy totals rs of e =
    ap (λ (bs : List ℕ). bs ++ totals_text totals) (nothing_of short_text (λ r h. ap (λ (b : Bool). if b then short_line r else []) h) (new_of rs) (new_none rs e))
passing Json policy totals rs of e = nothing_of json_lines (λ r h. ap (λ (b : Bool). if b then json_line r else []) h) rs e
passing Github policy totals rs of e =
    nothing_of github_text (λ r h. ap (λ (b : Bool). if b then github_line r else []) h) (new_of rs) (new_none rs e)
passing (Sarif version) policy totals rs of e =
    ap (λ (xs : List Report). log_text version.now (map result_of xs) ++ 10 ∷ []) (filter_none is_report_refused rs e)
passing Html policy totals rs of e = absurd (different of)
  where
    different : false ≡ true → ⊥
    different e = cc

-- the log reads back
pub log_told : (version : List ℕ) (rs : List Report) → LogReadsBack → IsLog version (log_line version rs) rs
log_told version rs reads_back = (log_text version (map result_of (refused_of rs)), refl, reads_back version (refused_of rs))

-- nothing is explained where no package has the name
pub none_explained : (style : Style) (name : List ℕ) (rs : List Report) → is_any_named name rs ≡ false → explanations_text style name rs ≡ []
none_explained style name rs e = ap (flat_map (explained_text style)) (filter_none (is_named name) rs e)

pub unadded : (b : Bool) (old more : List ℕ) → more ≡ [] → (if b then old ++ more else old) ≡ old
unadded true old more e = ap (λ (bs : List ℕ). old ++ bs) e ∙ append-nil old
unadded false old more e = refl
