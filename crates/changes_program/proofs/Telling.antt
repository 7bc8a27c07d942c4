-- What is told of each change, with the mark of its own row.
use Rattle.std.proofs.Common.{◌≡◌, ℕ, ◌+◌, ◌≤◌, zero, suc, List, [], ◌∷◌, ◌++◌, length, map, drop, refl, sym, ap, ◌∙◌, add-one, append_assoc, arith, subst}
use Rattle.std.specs.Borrow.{Bor}
use Rattle.std.specs.List.{AllZip}
use Rattle.std.specs.Prelude.{Bool, true, false, ◌&&◌, not, Option, None, Some, is_some, slice_get}
use Rattle.std.proofs.lemmas.List.{append-nil, drop-drop, map-append}
use Rattle.spdx_requirement.specs.Rows.{Rows}
use Rattle.spdx_policy.specs.Rules.{Rules}
use Rattle.spdx_gate.specs.declared.judgement.Judgement.{Judgement}
use Rattle.spdx_gate.specs.declared.package.Package as judged
use Rattle.spdx_gate.specs.declared.package.Verdict.{Verdict}
use Rattle.spdx_gate.specs.declared.report.Report.{Report}
use Rattle.spdx_gate.specs.declared.report.Row as gate
use Rattle.spdx_gate.specs.Reports.{IsRow, IsVerdictOf}
use Rattle.spdx_gate.specs.Verdicts.{passes}
use Rattle.gate_program.specs.Files.{moved_package}
use Rattle.gate_program.proofs.Asking.{drop_end}
use Rattle.package_changes.specs.Rows.{Row}
use Rattle.package_changes.specs.declared.tellings.Telling.{Telling}
use Rattle.changes_program.specs.declared.said.Said.{Said}
use Rattle.changes_program.specs.Said.{SaidRow, said_row}
use Rattle.changes_program.specs.Tellings.{AreTold, IsJudgedBy, IsMarkOf, judged_if, judged_of, moved_telling, row_at, telling_as, telling_of, tellings_from}

-- ---- one more is told

pub one_told : (report : Option Report) (said : List Said) (n : ℕ) (x : Said) (t : Telling) (all new : List Telling) (whole : List Telling)
    → drop n said ≡ x ∷ drop (suc n) said → new ≡ all ++ t ∷ [] → moved_telling t ≡ telling_of (said_row x) (row_at report n)
    → map moved_telling all ++ tellings_from report n (map said_row (drop n said)) ≡ whole
    → map moved_telling new ++ tellings_from report (n + 1) (map said_row (drop (n + 1) said)) ≡ whole
one_told report said n x t all new whole first more is before =
    let rest = tellings_from report (suc n) (map said_row (drop (suc n) said)) in
    ap (λ (m : ℕ). map moved_telling new ++ tellings_from report m (map said_row (drop m said))) (add-one n)
    ∙ ap (λ (ts : List Telling). map moved_telling ts ++ rest) more
    ∙ ap (λ (ts : List Telling). ts ++ rest) (map-append moved_telling all (t ∷ []))
    ∙ append_assoc (map moved_telling all) (moved_telling t ∷ []) rest
    ∙ ap (λ (m : Telling). map moved_telling all ++ m ∷ rest) is
    ∙ ap (λ (ys : List Said). map moved_telling all ++ tellings_from report n (map said_row ys)) (sym first)
    ∙ before

pub all_told : (report : Option Report) (said : List Said) (n : ℕ) (all whole : List Telling) → length said ≤ n
    → map moved_telling all ++ tellings_from report n (map said_row (drop n said)) ≡ whole → map moved_telling all ≡ whole
all_told report said n all whole le e =
    sym (append-nil (map moved_telling all))
    ∙ ap (λ (ys : List Said). map moved_telling all ++ tellings_from report n (map said_row ys)) (sym (drop_end said n le))
    ∙ e

-- ---- the row of a number

abbrev first_or : {X : Type 0} → X → List X → X
first_or d [] = d
first_or d (x ∷ xs) = x

abbrev behind : {X : Type 0} → List X → List X
behind [] = []
behind (x ∷ xs) = xs

longer : {X : Type 0} (x : X) (xs : List X) → [] ≡ x ∷ xs → ⊥
longer x xs e =
    let l : 0 ≡ length (x ∷ xs) = ap length e in
    absurd (omega (arith, l))

got : (rows : List gate.Row) (n : ℕ) (r : gate.Row) (rs : List gate.Row) → drop n rows ≡ r ∷ rs → slice_get rows n ≡ Some r
got [] zero r rs e = absurd (longer r rs e)
got [] (suc n) r rs e = absurd (longer r rs e)
got (x ∷ xs) zero r rs e = ap (λ (ys : List gate.Row). Some (first_or r ys)) e
got (x ∷ xs) (suc n) r rs e = got xs n r rs e

next : (rows : List gate.Row) (n : ℕ) (r : gate.Row) (rs : List gate.Row) → drop n rows ≡ r ∷ rs → drop (suc n) rows ≡ rs
next rows n r rs e = ap (λ (m : ℕ). drop m rows) (sym (add-one n)) ∙ sym (drop-drop 1 n rows) ∙ ap (drop 1) e

-- ---- marks

and_false : (b : Bool) → (b && false) ≡ false
and_false true = refl
and_false false = refl

-- where texts lie doesn't matter to a verdict
moved_verdict : (c : Rows) (p : Rules) (name : Bor (List ℕ)) (version license : Option (Bor (List ℕ))) (v : Verdict)
    → IsVerdictOf c p (record { name = name; version = version; license = license }) v → IsVerdictOf c p (moved_package (record { name = name; version = version; license = license })) v
moved_verdict c p name None None v h = h
moved_verdict c p name None (Some l) v h = h
moved_verdict c p name (Some w) None v h = h
moved_verdict c p name (Some w) (Some l) v h = h

marked : (c : Rows) (p : Rules) (new : Option Row) (v : Verdict) (b : Bool) → IsVerdictOf c p (judged_if new) v → b ≡ (is_some new && not (passes v)) → IsMarkOf c p new b
marked c p None v b h e = e
marked c p (Some new) v b h e = (v, h, e)

-- a telling by what it is where its texts are moved
told_as : (s : SaidRow) (t : Telling) (b : Bool) → moved_telling t ≡ telling_as s b → (t.is_refused ≡ b) × (moved_telling t ≡ telling_as s t.is_refused)
told_as s t b e =
    let same : t.is_refused ≡ b = ap (λ (x : Telling). x.is_refused) e in
    (same, e ∙ ap (telling_as s) (sym same))

none_marked : (c : Rows) (n : ℕ) (said : List SaidRow) (ts : List Telling) → map moved_telling ts ≡ tellings_from None n said → AreTold c None said ts
none_marked c n [] [] e = tt
none_marked c n [] (t ∷ ts) e = absurd (longer (moved_telling t) (map moved_telling ts) (sym e))
none_marked c n (s ∷ ss) [] e = absurd (longer (telling_of s None) (tellings_from None (suc n) ss) e)
none_marked c n (s ∷ ss) (t ∷ ts) e =
    let as_told = told_as s t (is_some s.new && false) (ap (first_or (moved_telling t)) e) in
    ((as_told.0 ∙ and_false (is_some s.new), as_told.1), none_marked c (suc n) ss ts (ap behind e))

each_marked : (c : Rows) (p : Rules) (js : List Judgement) (report : Report) (n : ℕ) (said : List SaidRow) (ts : List Telling) (xs : List judged.Package) (rows : List gate.Row)
    → drop n report.rows.items ≡ rows → AllZip (IsRow c p js) xs rows → map moved_package xs ≡ map judged_of said → map moved_telling ts ≡ tellings_from (Some report) n said → AreTold c (Some p) said ts
each_marked c p js report n [] [] xs rows at z same e = tt
each_marked c p js report n [] (t ∷ ts) xs rows at z same e = absurd (longer (moved_telling t) (map moved_telling ts) (sym e))
each_marked c p js report n (s ∷ ss) ts [] rows at z same e = absurd (longer (judged_of s) (map judged_of ss) same)
each_marked c p js report n (s ∷ ss) [] (x ∷ xs) rows at z same e = absurd (longer (telling_of s (row_at (Some report) n)) (tellings_from (Some report) (suc n) ss) e)
each_marked c p js report n (s ∷ ss) (t ∷ ts) (x ∷ xs) [] at z same e = absurd z
each_marked c p js report n (s ∷ ss) (t ∷ ts) (x ∷ xs) (r ∷ rs) at z same e =
    let row : row_at (Some report) n ≡ Some r = got report.rows.items n r rs at in
    let told : moved_telling t ≡ telling_as s (is_some s.new && not (passes r.verdict)) =
    ap (first_or (moved_telling t)) e ∙ ap (λ (o : Option gate.Row). telling_of s o) row in
    let as_told = told_as s t (is_some s.new && not (passes r.verdict)) told in
    let judged_so : moved_package x ≡ judged_of s = ap (first_or (moved_package x)) same in
    let verdict = subst (λ (y : judged.Package). IsVerdictOf c p y r.verdict) judged_so (moved_verdict c p x.name x.version x.license r.verdict z.0.verdict) in (
      (marked c p s.new r.verdict t.is_refused verdict as_told.0, as_told.1),
      each_marked c p js report (suc n) ss ts xs rs (next report.rows.items n r rs at) z.1 (ap behind same) (ap behind e),
    )

pub none_are_marked : (c : Rows) (said : List SaidRow) (ts : List Telling) (o : Option Rules) → o ≡ None → map moved_telling ts ≡ tellings_from None 0 said → AreTold c o said ts
none_are_marked c said ts o none e = subst (λ (q : Option Rules). AreTold c q said ts) (sym none) (none_marked c 0 said ts e)

pub all_are_marked : (c : Rows) (said : List SaidRow) (ts : List Telling) (report : Report) (o : Option Rules) (p : Rules)
    → o ≡ Some p → IsJudgedBy c p said report → map moved_telling ts ≡ tellings_from (Some report) 0 said → AreTold c o said ts
all_are_marked c said ts report o p some (xs, same, is) e =
    subst (λ (q : Option Rules). AreTold c q said ts) (sym some) (each_marked c p report.judgements.items report 0 said ts xs report.rows.items refl is.rows same e)
