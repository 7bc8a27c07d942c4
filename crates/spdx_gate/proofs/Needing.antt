-- With all the entries that packages need in `allow`, each that something helps passes.
use Rattle.std.proofs.Common.{◌≡◌, ℕ, Bool, true, false, ◌||◌, List, [], ◌∷◌, ◌++◌, Option, Some, map, refl, sym, ap, subst, ◌∙◌}
use Rattle.std.specs.Prelude.{bytes_eq, flat_map, fold, if◌then◌else◌, option_and_then, string_bytes, All, Contains}
use Rattle.std.proofs.lemmas.List.Elements.{All-contains, All-contains_itself, All-weaker, All-nil, All-cons, Contains-append_left, Contains-append_right, Contains-push}
use Rattle.std.proofs.lemmas.Slice.Eq.{bytes_eq-Decides}
use Rattle.spdx_requirement.specs.Rows.{Rows}
use Rattle.spdx_parser.specs.Tree.{Tree}
use Rattle.spdx_evaluation.specs.Postfix.{tree_in}
use Rattle.spdx_evaluation.specs.Truth.{holds}
use Rattle.spdx_policy.specs.Growing.{with_allowed}
use Rattle.spdx_policy.specs.Rules.{NamedRow, Rules}
use Rattle.spdx_gate.specs.declared.advice.Advice.{Advice}
use Rattle.spdx_gate.specs.declared.advice.Advice.TheVariants as advice
use Rattle.spdx_gate.specs.declared.judgement.Judgement.{Judgement}
use Rattle.spdx_gate.specs.declared.needs.Need.{Need}
use Rattle.spdx_gate.specs.declared.package.Verdict.{Verdict}
use Rattle.spdx_gate.specs.declared.package.Verdict.TheVariants as verdict
use Rattle.spdx_gate.specs.declared.report.Row.{Row}
use Rattle.spdx_gate.specs.declared.report.Report.{Report}
use Rattle.spdx_gate.specs.Allowing.{allowed_in}
use Rattle.spdx_gate.specs.Advising.{AdviceWorks, HasEntry}
use Rattle.spdx_gate.specs.Judging.{IsJudged, IsOutcome}
use Rattle.spdx_gate.specs.Needs.{NeedsWork, PassesWith, advice_by, advice_of, entries_needed, is_among, is_unmet_by, is_unsought_by, need_entry, needed_by, texts_in, with_text}
use Rattle.spdx_gate.specs.Reports.{IsRight}
use Rattle.spdx_gate.specs.Verdicts.{passes, verdict_by}
use Rattle.spdx_gate.proofs.Works.{at_place}

-- ---- what is needed is among the entries

first_among : (y x : List ℕ) (ys : List (List ℕ)) (b : Bool) → bytes_eq y x ≡ b → (is_among ys x ≡ true → Contains ys x) → (b || is_among ys x) ≡ true → Contains (y ∷ ys) x
first_among y x ys true same more e = subst (Contains (y ∷ ys)) ((bytes_eq-Decides y x).0 same) (Contains-append_left (y ∷ []) ys y (Contains-push [] y))
first_among y x ys false same more e = Contains-append_right (y ∷ []) ys x (more e)

among : (ys : List (List ℕ)) (x : List ℕ) → is_among ys x ≡ true → Contains ys x
among [] x e = let bad : false ≡ true = e in absurd (cc)
among (y ∷ ys) x e = first_among y x ys (bytes_eq y x) refl (among ys x) e

kept_by : (b : Bool) (known : List (List ℕ)) (x y : List ℕ) → Contains known x → Contains (if b then known else known ++ y ∷ []) x
kept_by true known x y h = h
kept_by false known x y h = Contains-append_left known (y ∷ []) x h

added_by : (b : Bool) (known : List (List ℕ)) (y : List ℕ) → is_among known y ≡ b → Contains (if b then known else known ++ y ∷ []) y
added_by true known y e = among known y e
added_by false known y e = Contains-push known y

kept : (known xs : List (List ℕ)) (x : List ℕ) → Contains known x → Contains (fold with_text known xs) x
kept known [] x h = h
kept known (y ∷ xs) x h = kept (with_text known y) xs x (kept_by (is_among known y) known x y h)

-- each of the texts is there in the end
all_kept : (known xs : List (List ℕ)) → All (Contains (fold with_text known xs)) xs
all_kept known [] = All-nil (Contains known)
all_kept known (y ∷ xs) =
    All-cons (Contains (fold with_text known (y ∷ xs))) y xs (kept (with_text known y) xs y (added_by (is_among known y) known y refl)) (all_kept (with_text known y) xs)

all_within : {X : Type 0} (P : X → Type 0) (xs ys : List X) → All (Contains ys) xs → All P ys → All P xs
all_within P xs ys within all = All-weaker (Contains ys) P (λ x h. All-contains P ys x all h) xs within

at_left : {X : Type 0} (P : X → Type 0) (xs ys : List X) → All P (xs ++ ys) → All P xs
at_left P xs ys all = all_within P xs (xs ++ ys) (All-weaker (Contains xs) (Contains (xs ++ ys)) (λ x h. Contains-append_left xs ys x h) xs (All-contains_itself xs)) all

at_right : {X : Type 0} (P : X → Type 0) (xs ys : List X) → All P (xs ++ ys) → All P ys
at_right P xs ys all = all_within P ys (xs ++ ys) (All-weaker (Contains ys) (Contains (xs ++ ys)) (λ x h. Contains-append_right xs ys x h) ys (All-contains_itself ys)) all

-- what holds of all that is joined holds of each part
each_flat : {A X : Type 0} (P : X → Type 0) (f : A → List X) (parts : List A) → All P (flat_map f parts) → All (λ a. All P (f a)) parts
each_flat P f [] all = All-nil (λ a. All P (f a))
each_flat P f (a ∷ parts) all =
    All-cons (λ a. All P (f a)) a parts (at_left P (f a) (flat_map f parts) all) (each_flat P f parts (at_right P (f a) (flat_map f parts) all))

-- ---- a package that has its entries passes

by_advice : (p : Rules) (tables : List ℕ) (t : Tree) (more : List NamedRow) (a : Advice) → AdviceWorks p tables t a → All (HasEntry p more) (texts_in (Some a))
    → is_unmet_by (Some a) ≡ false → is_unsought_by (Some a) ≡ false → holds (allowed_in (with_allowed p more) tables) t ≡ true
by_advice p tables t more (advice.Allow texts) works has met sought = works more has
by_advice p tables t more advice.Unmet works has met sought = absurd (cc)
by_advice p tables t more (advice.TooMany n) works has met sought = absurd (cc)

passes_by : (a b : Bool) → a ≡ true → passes (verdict_by a b) ≡ true
passes_by true true e = refl
passes_by true false e = refl
passes_by false b e = absurd (cc)

row_passes : (c : Rows) (p : Rules) (more : List NamedRow) (js : List Judgement) → All (IsRight c p) js → (row : Row) → All (HasEntry p more) (needed_by js row) → PassesWith p more js row
row_passes c p more js right row has = λ k j d refused place there judged met sought.
    let judges : IsOutcome c p j.exceptions.items (string_bytes j.text) j.outcome = at_place (IsRight c p) js k j right there in
    let said : IsJudged c p j.exceptions.items (string_bytes j.text) d = subst (IsOutcome c p j.exceptions.items (string_bytes j.text)) judged judges in
    let advised : advice_by js row.verdict row.judgement ≡ Some d.advice =
    ap (λ (v : Verdict). advice_by js v row.judgement) refused ∙ ap (advice_by js verdict.Refused) place
    ∙ ap (option_and_then (λ (i : Judgement). advice_of i.outcome)) there ∙ ap advice_of judged in
    let entries : All (HasEntry p more) (texts_in (Some d.advice)) = subst (λ (o : Option Advice). All (HasEntry p more) (texts_in o)) advised has in
    let holding : holds (allowed_in (with_allowed p more) j.exceptions.items) said.parsed.tree ≡ true =
    by_advice p j.exceptions.items said.parsed.tree more d.advice said.decided.advice_is.works entries met sought in
    passes_by (holds (allowed_in (with_allowed p more) j.exceptions.items) (tree_in d.nodes.items)) (holds (allowed_in (with_allowed p more) []) (tree_in d.nodes.items))
    (subst (λ (t : Tree). holds (allowed_in (with_allowed p more) j.exceptions.items) t ≡ true) (sym said.tree_is) holding)

pub needs_work : (report : Report) (needs : List Need) → map need_entry needs ≡ entries_needed report → NeedsWork report needs
needs_work report needs are = λ c p xs more is_report has.
    let js = report.judgements.items in
    let all : All (HasEntry p more) (entries_needed report) = subst (All (HasEntry p more)) are has in
    let flat : All (HasEntry p more) (flat_map (needed_by js) report.rows.items) =
    all_within (HasEntry p more) (flat_map (needed_by js) report.rows.items) (entries_needed report) (all_kept [] (flat_map (needed_by js) report.rows.items)) all in
    All-weaker (λ row. All (HasEntry p more) (needed_by js row)) (PassesWith p more js) (row_passes c p more js is_report.right) report.rows.items
    (each_flat (HasEntry p more) (needed_by js) report.rows.items flat)
