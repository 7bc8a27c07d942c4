-- What is written of texts doesn't depend on where they lie.
use Rattle.std.proofs.Common.{◌≡◌, ℕ, List, [], ◌∷◌, ◌++◌, codes, map, flat_map, refl, sym, ap, ◌∙◌, subst}
use Rattle.std.specs.Borrow.{Bor}
use Rattle.std.specs.Prelude.{All, count_by}
use Rattle.foreign_text.specs.declared.sinks.Sink.TheVariants.{Line}
use Rattle.gate_forms.specs.declared.reports.Need.{Need}
use Rattle.gate_forms.specs.Report.{name_text}
use Rattle.gate_forms.specs.Summary.{count_line, needs_line, next_need, summary_text}
use Rattle.gate_forms.specs.Totals.{unused_text}
use Rattle.spdx_evaluation.specs.Requirements.{nows}
use Rattle.spdx_gate.specs.declared.needs.Need as gate
use Rattle.spdx_gate.specs.declared.report.Report.{Report}
use Rattle.spdx_gate.specs.Advising.{HasEntry}
use Rattle.spdx_gate.specs.Needs.{entries_needed, is_unmet, is_unsought, need_entry, packages_needing, NeedsWork}
use Rattle.gate_told.specs.Borrowed.{borrowed}
use Rattle.gate_told.specs.Needs.{TellsEnough, need_of, summary_of, told_needed, told_packages}

-- a name behind others
behind : Bor (List ℕ) → List ℕ
behind y = codes ", " ++ name_text Line y

names_behind : (xs : List (Bor (List ℕ))) → flat_map (λ y. codes ", " ++ name_text Line y) xs ≡ flat_map (λ y. codes ", " ++ name_text Line y) (map borrowed (nows xs))
names_behind [] = refl
names_behind (x ∷ xs) = ap (λ (ys : List ℕ). (codes ", " ++ name_text Line x) ++ ys) (names_behind xs)

unused_same : (path : List ℕ) (names : List (Bor (List ℕ))) → unused_text path names ≡ unused_text path (map borrowed (nows names))
unused_same path [] = refl
unused_same path (x ∷ xs) = rw (names_behind xs)

pub unused_written : (path : List ℕ) (names : List (Bor (List ℕ))) (texts : List (List ℕ)) → nows names ≡ texts → unused_text path names ≡ unused_text path (map borrowed texts)
unused_written path names texts e = unused_same path names ∙ ap (λ (ts : List (List ℕ)). unused_text path (map borrowed ts)) e

head_is : {A : Type 0} (x y : A) (xs ys : List A) → x ∷ xs ≡ y ∷ ys → x ≡ y
head_is x y xs ys e = cc

tail_is : {A : Type 0} (x y : A) (xs ys : List A) → x ∷ xs ≡ y ∷ ys → xs ≡ ys
tail_is x y xs ys e = cc

needs_behind : (f : List ℕ → ℕ) (ns : List Need) → map told_packages ns ≡ map f (map told_needed ns) → flat_map next_need ns ≡ flat_map next_need (map (need_of f) (map told_needed ns))
needs_behind f [] e = refl
needs_behind f (n ∷ ns) e =
    ap (λ (k : ℕ). next_need (record { entry = n.entry; packages = k }) ++ flat_map next_need ns) (head_is _ _ _ _ e)
    ∙ ap (λ (ys : List ℕ). next_need (need_of f n.entry.now) ++ ys) (needs_behind f ns (tail_is _ _ _ _ e))

line_same : (f : List ℕ → ℕ) (ns : List Need) → map told_packages ns ≡ map f (map told_needed ns) → needs_line ns ≡ needs_line (map (need_of f) (map told_needed ns))
line_same f [] e = refl
line_same f (n ∷ ns) e =
    rw (needs_behind f ns (tail_is _ _ _ _ e)) (rw (head_is _ _ _ _ e) refl)

line_written : (f : List ℕ → ℕ) (ns : List Need) (es : List (List ℕ)) → map told_needed ns ≡ es → map told_packages ns ≡ map f es → needs_line ns ≡ needs_line (map (need_of f) es)
line_written f ns es e h =
    line_same f ns (h ∙ ap (map f) (sym e)) ∙ ap (λ (ts : List (List ℕ)). needs_line (map (need_of f) ts)) e

pub needs_written : (report : Report) (ns : Bor (List Need)) (u k : ℕ) → map told_needed ns.now ≡ entries_needed report
    → map told_packages ns.now ≡ map (packages_needing report) (entries_needed report)
    → u ≡ count_by (is_unmet report.judgements.items) report.rows.items → k ≡ count_by (is_unsought report.judgements.items) report.rows.items
    → summary_text (record { needs = ns; unmet = u; not_sought = k }) ≡ summary_text (summary_of report)
needs_written report ns u k e h hu hk =
    ap (λ (v : ℕ). summary_text (record { needs = ns; unmet = v; not_sought = k })) hu
    ∙ ap (λ (v : ℕ). summary_text (record { needs = ns; unmet = count_by (is_unmet report.judgements.items) report.rows.items; not_sought = v })) hk
    ∙ ap (λ (line : List ℕ). line ++ (count_line (count_by (is_unmet report.judgements.items) report.rows.items) (codes " can't pass by what may be allowed\n")
    ++ count_line (count_by (is_unsought report.judgements.items) report.rows.items) (codes " without advice: too many entries to choose from\n")))
    (line_written (packages_needing report) ns.now (entries_needed report) e h)

pub works : (report : Report) (needs : List gate.Need) → map need_entry needs ≡ entries_needed report → NeedsWork report needs → TellsEnough report
works report needs e w others h c p xs more is has =
    w c p xs more is (subst (λ (ts : List (List ℕ)). All (HasEntry p more) ts) (h ∙ sym e) has)
