-- The report of packages, and the judgement of each.
use Rattle.std.proofs.Common.{◌≡◌, ℕ, zero, suc, List, [], ◌∷◌, Option, Some, None, length, map, refl, sym, ◌∙◌, ap, subst, arith}
use Rattle.std.specs.Prelude.{All, option_and_then, slice_get, string_bytes, unwrap_or}
use Rattle.std.specs.Borrow.{Bor}
use Rattle.std.specs.List.{AllZip}
use Rattle.spdx_requirement.specs.Rows.{Rows}
use Rattle.spdx_policy.specs.Rules.{Rules}
use Rattle.package_items.specs.declared.package.Package.{Package}
use Rattle.spdx_gate.specs.declared.package.Package as judged
use Rattle.spdx_gate.specs.declared.judgement.Judgement.{Judgement}
use Rattle.spdx_gate.specs.declared.report.Report.{Report}
use Rattle.spdx_gate.specs.declared.report.Row.{Row}
use Rattle.spdx_gate.specs.Judging.{IsOutcome}
use Rattle.spdx_gate.specs.Reports.{IsPlaceOf, IsReport, IsRight, IsRow}
use Rattle.spdx_gate.proofs.Works.{at_place}
use Rattle.gate_program.specs.Files.{moved_package, view_of}
use Rattle.choice_program.specs.Judged.{IsJudgementOf, IsReportOn, judgement_at, judgement_in, tables_for, text_for}

abbrev first_or : {A : Type 0} → A → List A → A
first_or d [] = d
first_or d (x ∷ xs) = x

abbrev behind : {A : Type 0} → List A → List A
behind [] = []
behind (x ∷ xs) = xs

longer : {A : Type 0} (x : A) (xs : List A) → [] ≡ x ∷ xs → ⊥
longer x xs e =
    let l : 0 ≡ suc (length xs) = ap length e in
    absurd (omega (arith, l))

-- where texts lie doesn't matter to a row
moved_row : (c : Rows) (p : Rules) (js : List Judgement) (name : Bor (List ℕ)) (version license : Option (Bor (List ℕ))) (row : Row)
    → IsRow c p js (record { name = name; version = version; license = license }) row → IsRow c p js (moved_package (record { name = name; version = version; license = license })) row
moved_row c p js name None None row h = record { verdict = h.verdict; exceptions = h.exceptions; clarification = h.clarification; judgement = h.judgement }
moved_row c p js name None (Some l) row h = record { verdict = h.verdict; exceptions = h.exceptions; clarification = h.clarification; judgement = h.judgement }
moved_row c p js name (Some w) None row h = record { verdict = h.verdict; exceptions = h.exceptions; clarification = h.clarification; judgement = h.judgement }
moved_row c p js name (Some w) (Some l) row h = record { verdict = h.verdict; exceptions = h.exceptions; clarification = h.clarification; judgement = h.judgement }

rows_viewed : (c : Rows) (p : Rules) (js : List Judgement) (xs : List judged.Package) (ps : List Package) (rows : List Row) → map moved_package xs ≡ map view_of ps
    → AllZip (IsRow c p js) xs rows → AllZip (λ (x : Package) (row : Row). IsRow c p js (view_of x) row) ps rows
rows_viewed c p js [] [] [] e h = tt
rows_viewed c p js [] [] (r ∷ rs) e h = absurd h
rows_viewed c p js [] (y ∷ ys) rows e h = absurd (longer (view_of y) (map view_of ys) e)
rows_viewed c p js (x ∷ xs) [] rows e h = absurd (longer (moved_package x) (map moved_package xs) (sym e))
rows_viewed c p js (x ∷ xs) (y ∷ ys) [] e h = absurd h
rows_viewed c p js (x ∷ xs) (y ∷ ys) (r ∷ rs) e h =
    let here : moved_package x ≡ view_of y = ap (first_or (moved_package x)) e in (
      subst (λ (z : judged.Package). IsRow c p js z r) here (moved_row c p js x.name x.version x.license r h.0),
      rows_viewed c p js xs ys rs (ap behind e) h.1,
    )

pub reported : (c : Rows) (p : Rules) (xs : List judged.Package) (ps : List Package) (report : Report) → IsReport c p xs report → map moved_package xs ≡ map view_of ps → IsReportOn c p ps report
reported c p xs ps report is same = record {
  rows = rows_viewed c p report.judgements.items xs ps report.rows.items same is.rows;
  right = is.right;
}

-- ---- the judgement of a package

placed : (c : Rows) (p : Rules) (x : Package) (js : List Judgement) (text : Option (List ℕ)) (place : Option ℕ) → All (IsRight c p) js → text_for p x ≡ text
    → IsPlaceOf js (tables_for p x) text place → IsJudgementOf c p x (option_and_then (slice_get js) place)
placed c p x js None place right e at = subst (λ (o : Option ℕ). IsJudgementOf c p x (option_and_then (slice_get js) o)) (sym at) e
placed c p x js (Some t) None right e at = absurd at
placed c p x js (Some t) (Some k) right e at =
    let j = at.judgement in
    let here : IsRight c p j = at_place (IsRight c p) js k j right at.there in
    let outcome : IsOutcome c p (tables_for p x) (string_bytes j.text) j.outcome = subst (λ (z : List ℕ). IsOutcome c p z (string_bytes j.text) j.outcome) at.is_of.exceptions_are here in
    subst (IsJudgementOf c p x) (sym at.there) (e ∙ ap Some (sym at.is_of.text_is), outcome)

of_row : (c : Rows) (p : Rules) (report : Report) (x : Package) (row : Row) → All (IsRight c p) report.judgements.items → IsRow c p report.judgements.items (view_of x) row
    → IsJudgementOf c p x (judgement_in report row)
of_row c p report x row right is = placed c p x report.judgements.items (text_for p x) row.judgement right refl is.judgement

row_at : (R : Package → Row → Type 0) (ps : List Package) (rows : List Row) (n : ℕ) (x : Package) → AllZip R ps rows → slice_get ps n ≡ Some x → (row : Row) × (slice_get rows n ≡ Some row) × R x row
row_at R [] rows n x h e = let bad : None ≡ Some x = e in cc
row_at R (y ∷ ys) [] n x h e = absurd h
row_at R (y ∷ ys) (r ∷ rs) zero x h e = (r, refl, subst (λ (z : Package). R z r) (ap (λ o. unwrap_or o y) e) h.0)
row_at R (y ∷ ys) (r ∷ rs) (suc n) x h e = row_at R ys rs n x h.1 e

pub judgement_is : (c : Rows) (p : Rules) (report : Report) (ps : List Package) (n : ℕ) (x : Package) → IsReportOn c p ps report → slice_get ps n ≡ Some x → IsJudgementOf c p x (judgement_at report n)
judgement_is c p report ps n x on e =
    let at = row_at (λ (y : Package) (row : Row). IsRow c p report.judgements.items (view_of y) row) ps report.rows.items n x on.rows e in
    subst (λ (o : Option Row). IsJudgementOf c p x (option_and_then (judgement_in report) o)) (sym at.1) (of_row c p report x at.0 on.right at.2)
