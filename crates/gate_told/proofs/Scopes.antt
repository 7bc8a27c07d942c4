-- What is told of refused packages alone.
use Rattle.std.proofs.Common.{◌≡◌, ℕ, Bool, true, false, cond, List, [], ◌∷◌, ◌++◌, flat_map, map, refl, sym, ap, ◌∙◌}
use Rattle.std.proofs.lemmas.List.{append-nil}
use Rattle.std.proofs.lemmas.List.Elements.{filter-append}
use Rattle.std.specs.Prelude.{bytes_eq, filter, not, ◌&&◌, ◌||◌}
use Rattle.std.specs.List.{list_all, list_any}
use Rattle.foreign_text.specs.declared.sinks.Sink.TheVariants.{Line}
use Rattle.finding_forms.specs.SarifLog.{log_text}
use Rattle.finding_forms.specs.declared.forms.Style.{Style}
use Rattle.gate_forms.specs.declared.reports.Report.{Report}
use Rattle.gate_forms.specs.declared.reports.Totals.{Totals}
use Rattle.gate_forms.specs.Human.{human_text, reasons_text, refused_lines}
use Rattle.gate_forms.specs.Json.{json_line, json_lines}
use Rattle.gate_forms.specs.Known.{is_known}
use Rattle.gate_forms.specs.Lines.{github_line, github_text, short_line, short_text}
use Rattle.gate_forms.specs.Refusals.{also_line, is_same, refusal_text, refusals_from, refusals_text, told_text}
use Rattle.gate_forms.specs.Report.{verdict_text}
use Rattle.gate_forms.specs.Sarif.{result_of}
use Rattle.gate_forms.specs.Totals.{totals_text}
use Rattle.gate_told.specs.declared.forms.Format.{Format}
use Rattle.gate_told.specs.declared.forms.Format.TheVariants.{Human, Short, Json, Github, Sarif, Html}
use Rattle.gate_told.specs.declared.packages.Scope.{Scope}
use Rattle.gate_told.specs.declared.packages.Scope.TheVariants as scope
use Rattle.gate_told.specs.Scopes.{IsEnough, is_told, told_in}
use Rattle.gate_told.specs.Verdicts.{are_gathered, is_report_refused, new_of, people_text, refused_of}

-- ---- scopes

pub none_told : (s : Scope) → [] ≡ told_in s []
none_told scope.All = refl
none_told scope.Refused = refl

pub told_both : (s : Scope) (xs ys : List Report) → told_in s (xs ++ ys) ≡ told_in s xs ++ told_in s ys
told_both scope.All xs ys = refl
told_both scope.Refused xs ys = filter-append is_report_refused xs ys

-- one report, if it is told
pub one_in : (s : Scope) (r : Report) → told_in s (r ∷ []) ≡ cond (is_told s r) (r ∷ []) []
one_in scope.All r = refl
one_in scope.Refused r = refl

-- ---- lists of which some elements are no matter

-- what is made of each is the same without those of which nothing is made
flat_same : {X : Type 0} (test : X → Bool) (f : X → List ℕ) → ((x : X) → test x ≡ false → f x ≡ []) → (xs : List X) → flat_map f (filter test xs) ≡ flat_map f xs
flat_same test f h [] = refl
flat_same test f h (x ∷ xs) = go (test x) refl (flat_same test f h xs)
  where
    go : (b : Bool) → test x ≡ b → flat_map f (filter test xs) ≡ flat_map f xs → flat_map f (cond b (x ∷ filter test xs) (filter test xs)) ≡ f x ++ flat_map f xs
    go true e same = ap (λ (ys : List ℕ). f x ++ ys) same
    go false e same = same ∙ sym (ap (λ (ys : List ℕ). ys ++ flat_map f xs) (h x e))

-- a filter is the same without those that it leaves out
pub filter_same : {X : Type 0} (test p : X → Bool) → ((x : X) → test x ≡ false → p x ≡ false) → (xs : List X) → filter p (filter test xs) ≡ filter p xs
filter_same test p h [] = refl
filter_same {X} test p h (x ∷ xs) = go (test x) refl (filter_same test p h xs)
  where
    go : (b : Bool) → test x ≡ b → filter p (filter test xs) ≡ filter p xs → filter p (cond b (x ∷ filter test xs) (filter test xs)) ≡ cond (p x) (x ∷ filter p xs) (filter p xs)
    go true e same = ap (λ (ys : List X). cond (p x) (x ∷ ys) ys) same
    go false e same = same ∙ sym (ap (λ (b : Bool). cond b (x ∷ filter p xs) (filter p xs)) (h x e))

any_same : {X : Type 0} (test p : X → Bool) → ((x : X) → test x ≡ false → p x ≡ false) → (xs : List X) → list_any p (filter test xs) ≡ list_any p xs
any_same test p h [] = refl
any_same test p h (x ∷ xs) = go (test x) refl (any_same test p h xs)
  where
    go : (b : Bool) → test x ≡ b → list_any p (filter test xs) ≡ list_any p xs → list_any p (cond b (x ∷ filter test xs) (filter test xs)) ≡ (p x || list_any p xs)
    go true e same = ap (λ (b : Bool). p x || b) same
    go false e same = same ∙ sym (ap (λ (b : Bool). b || list_any p xs) (h x e))

pub all_same : {X : Type 0} (test p : X → Bool) → ((x : X) → test x ≡ false → p x ≡ true) → (xs : List X) → list_all p (filter test xs) ≡ list_all p xs
all_same test p h [] = refl
all_same test p h (x ∷ xs) = go (test x) refl (all_same test p h xs)
  where
    go : (b : Bool) → test x ≡ b → list_all p (filter test xs) ≡ list_all p xs → list_all p (cond b (x ∷ filter test xs) (filter test xs)) ≡ (p x && list_all p xs)
    go true e same = ap (λ (b : Bool). p x && b) same
    go false e same = same ∙ sym (ap (λ (b : Bool). b && list_all p xs) (h x e))

first_by : {X : Type 0} (test : X → Bool) (x : X) (b : Bool) (xs : List X) → test x ≡ b → filter test (x ∷ xs) ≡ cond b (x ∷ filter test xs) (filter test xs)
first_by test x b xs e = ap (λ (c : Bool). cond c (x ∷ filter test xs) (filter test xs)) e

-- of two filters either may be the first
swapped : {X : Type 0} (p q : X → Bool) (xs : List X) → filter p (filter q xs) ≡ filter q (filter p xs)
swapped p q [] = refl
swapped {X} p q (x ∷ xs) = go (p x) (q x) refl refl (swapped p q xs)
  where
    go : (a b : Bool) → p x ≡ a → q x ≡ b → filter p (filter q xs) ≡ filter q (filter p xs)
        → filter p (cond b (x ∷ filter q xs) (filter q xs)) ≡ filter q (cond a (x ∷ filter p xs) (filter p xs))
    go true true ea eb same = first_by p x true (filter q xs) ea ∙ ap (λ (ys : List X). x ∷ ys) same ∙ sym (first_by q x true (filter p xs) eb)
    go true false ea eb same = same ∙ sym (first_by q x false (filter p xs) eb)
    go false true ea eb same = first_by p x false (filter q xs) ea ∙ same
    go false false ea eb same = same

-- ---- equal refusals

shorter : (xs : List ℕ) (y : ℕ) (ys : List ℕ) → bytes_eq [] (xs ++ y ∷ ys) ≡ false
shorter [] y ys = refl
shorter (x ∷ xs) y ys = refl

-- of a package that passes nothing is told, so not the same as of a refused one
none_same : (style : Style) (r : Report) → is_report_refused r ≡ true → (s : Report) → is_report_refused s ≡ false → is_same style r s ≡ false
none_same style r er s es =
    ap (λ (b : Bool). bytes_eq (cond b (verdict_text Line s ++ 10 ∷ reasons_text style s) []) (told_text style r)) es
    ∙ ap (λ (b : Bool). bytes_eq [] (cond b (verdict_text Line r ++ 10 ∷ reasons_text style r) [])) er
    ∙ shorter (verdict_text Line r) 10 (reasons_text style r)

behind : (earlier : List Report) (r : Report) (b : Bool) → is_report_refused r ≡ b → refused_of (earlier ++ r ∷ []) ≡ refused_of earlier ++ cond b (r ∷ []) []
behind earlier r b e =
    filter-append is_report_refused earlier (r ∷ []) ∙ ap (λ (c : Bool). refused_of earlier ++ cond c (r ∷ []) []) e

-- a refused package is told as beside all
refusal_same : (style : Style) (earlier : List Report) (r : Report) (rs : List Report) → is_report_refused r ≡ true
    → refusal_text style (refused_of earlier) r (refused_of rs) ≡ refusal_text style earlier r rs
refusal_same style earlier r rs e =
    ap (λ (b : Bool). cond (is_report_refused r && not b) (refused_lines style r ++ also_line (filter (is_same style r) (refused_of rs))) [])
    (any_same is_report_refused (is_same style r) (none_same style r e) earlier)
    ∙ ap (λ (ys : List Report). cond (is_report_refused r && not (list_any (is_same style r) earlier)) (refused_lines style r ++ also_line ys) [])
    (filter_same is_report_refused (is_same style r) (none_same style r e) rs)

refusals_same : (style : Style) (earlier rs : List Report) → refusals_from style (refused_of earlier) (refused_of rs) ≡ refusals_from style earlier rs
refusals_same style earlier [] = refl
refusals_same style earlier (r ∷ rs) = go (is_report_refused r) refl (refusals_same style (earlier ++ r ∷ []) rs)
  where
    go : (b : Bool) → is_report_refused r ≡ b → refusals_from style (refused_of (earlier ++ r ∷ [])) (refused_of rs) ≡ refusals_from style (earlier ++ r ∷ []) rs
        → refusals_from style (refused_of earlier) (cond b (r ∷ refused_of rs) (refused_of rs)) ≡ refusals_from style earlier (r ∷ rs)
    go true e rest =
        ap (λ (bs : List ℕ). bs ++ refusals_from style (refused_of earlier ++ r ∷ []) (refused_of rs)) (refusal_same style earlier r rs e)
        ∙ ap (λ (es : List Report). refusal_text style earlier r rs ++ refusals_from style es (refused_of rs)) (sym (behind earlier r true e))
        ∙ ap (λ (bs : List ℕ). refusal_text style earlier r rs ++ bs) rest
    go false e rest =
        ap (λ (es : List Report). refusals_from style es (refused_of rs)) (sym (behind earlier r false e ∙ append-nil (refused_of earlier)))
        ∙ rest
        ∙ sym (ap (λ (b : Bool). cond (b && not (list_any (is_same style r) earlier)) (refused_lines style r ++ also_line (filter (is_same style r) rs)) [] ++ refusals_from style (earlier ++ r ∷ []) rs) e)

-- ---- forms

lines_same : (f : Report → List ℕ) → ((r : Report) → is_report_refused r ≡ false → f r ≡ []) → (rs : List Report) → flat_map f (refused_of rs) ≡ flat_map f rs
lines_same f h rs = flat_same is_report_refused f h rs

new_same : (f : Report → List ℕ) → ((r : Report) → is_report_refused r ≡ false → f r ≡ []) → (rs : List Report) → flat_map f (new_of (refused_of rs)) ≡ flat_map f (new_of rs)
new_same f h rs =
    ap (flat_map f) (swapped (λ r. not (is_known r)) is_report_refused rs) ∙ lines_same f h (new_of rs)

either_same : (b : Bool) (xs ys us vs : List ℕ) → xs ≡ us → ys ≡ vs → cond b xs ys ≡ cond b us vs
either_same true xs ys us vs e f = e
either_same false xs ys us vs e f = f

people_same : (style : Style) (totals : Totals) (rs : List Report) → people_text style totals (new_of (refused_of rs)) ≡ people_text style totals (new_of rs)
people_same style totals rs =
    ap (people_text style totals) (swapped (λ r. not (is_known r)) is_report_refused rs)
    ∙ either_same (are_gathered totals) (refusals_text style (refused_of (new_of rs))) (flat_map (human_text style) (refused_of (new_of rs))) (refusals_text style (new_of rs)) (flat_map (human_text style) (new_of rs))
    (refusals_same style [] (new_of rs))
    (lines_same (human_text style) (λ r h. ap (λ (b : Bool). cond b (refused_lines style r) []) h) (new_of rs))

pub enough : (format : Format) (policy : List ℕ) (totals : Totals) → IsEnough format policy totals
enough (Human style) policy totals rs = ap (λ (bs : List ℕ). bs ++ totals_text totals) (people_same style totals rs)
enough Short policy totals rs =
    ap (λ (bs : List ℕ). bs ++ totals_text totals) (new_same short_text (λ r h. ap (λ (b : Bool). cond b (short_line r) []) h) rs)
enough Json policy totals rs = lines_same json_lines (λ r h. ap (λ (b : Bool). cond b (json_line r) []) h) rs
enough Github policy totals rs = new_same github_text (λ r h. ap (λ (b : Bool). cond b (github_line r) []) h) rs
enough (Sarif version) policy totals rs =
    ap (λ (xs : List Report). log_text version.now (map result_of xs) ++ 10 ∷ []) (filter_same is_report_refused is_report_refused (λ r e. e) rs)
enough Html policy totals rs = refl
