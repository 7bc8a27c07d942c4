-- Where all packages are told to pass and no refusal is known, the policy allows them all.
use Rattle.std.proofs.Common.{◌≡◌, ℕ, ◌+◌, ◌<◌, suc, List, [], ◌∷◌, ◌++◌, length, map, flat_map, refl, sym, ap, ◌∙◌, subst, arith}
use Rattle.std.specs.Borrow.{Bor}
use Rattle.std.specs.Global.{Vec}
use Rattle.std.specs.List.{AllZip, list_all}
use Rattle.std.specs.Option.{option_copied}
use Rattle.std.specs.Prelude.{⊤, All, Bool, true, false, ◌&&◌, ◌||◌, not, Option, None, Some, option_map, slice_get, string_bytes, if◌then◌else◌}
use Rattle.std.proofs.lemmas.Bool.{false≢true, true≢false}
use Rattle.std.proofs.lemmas.List.{length-map, length-append}
use Rattle.std.proofs.lemmas.List.Elements.{All-cons, All-nil}
use Rattle.std.proofs.lemmas.Option.{none-some}
use Rattle.std.proofs.lemmas.Slice.Zip.{AllZip-long}
use Rattle.shelves.specs.Shelf.{Shelved}
use Rattle.spdx_requirement.specs.Rows.{Rows}
use Rattle.spdx_policy.specs.Rules.{Rules}
use Rattle.spdx_gate.specs.declared.package.Package as judged
use Rattle.spdx_gate.specs.declared.judgement.Judgement.{Judgement}
use Rattle.spdx_gate.specs.declared.report.Row.{Row}
use Rattle.spdx_gate.specs.Reports.{IsRow}
use Rattle.spdx_gate.specs.Verdicts.{passes}
use Rattle.gate_forms.specs.declared.reports.Baseline.TheVariants.{Absent}
use Rattle.gate_forms.specs.declared.reports.Report.{Report}
use Rattle.gate_forms.specs.Known.{is_known_state}
use Rattle.gate_forms.specs.Report.{is_refused}
use Rattle.gate_told.specs.declared.packages.NamedPackage.{NamedPackage}
use Rattle.gate_told.specs.Packages.{is_row_refused, is_told_refused, moved_report, reports_from, row_told}
use Rattle.gate_told.specs.Told.{Telling}
use Rattle.list_program.specs.Named.{InsideBytes}
use Rattle.package_files.specs.declared.fault.FileFault.{FileFault}
use Rattle.package_files.specs.declared.listed.Listed.{Listed}
use Rattle.package_files.specs.All.{path_in}
use Rattle.package_files.proofs.Each.{whole}
use Rattle.gate_program.specs.declared.before.Before.{Before}
use Rattle.gate_program.specs.declared.run.End.{End}
use Rattle.gate_program.specs.declared.run.End.TheVariants as end
use Rattle.gate_program.specs.declared.run.Request.{Request}
use Rattle.gate_program.specs.declared.run.Run.{Run}
use Rattle.gate_program.specs.declared.told.GateText.{GateText}
use Rattle.gate_program.specs.Files.{moved_package, view_of, views_in}
use Rattle.gate_program.specs.Gated.{IsBeforeOf}
use Rattle.gate_program.specs.Run.{AreAllAllowed, AreAllowed, end_of, end_status, has_package, IsAllowed, IsEnd, told, no_file, no_baseline, IsOlderBy, IsRun, IsTold, status_by, status_of}
use Rattle.gate_program.specs.Texts.{is_passed}
use Rattle.gate_program.specs.Told.{moved_named, named_as, names_in}

-- ---- no refusal is known

abbrev AllAbsent : List Report → Type 0
AllAbsent [] = ⊤
AllAbsent (r ∷ rs) = (r.baseline ≡ Absent) × AllAbsent rs

absent_both : (xs ys : List Report) → AllAbsent xs → AllAbsent ys → AllAbsent (xs ++ ys)
absent_both [] ys a b = b
absent_both (x ∷ xs) ys a b = (a.0, absent_both xs ys a.1 b)

absent_row : (policy : List ℕ) (ts : List Telling) (x : NamedPackage) (o : Option Row) → AllAbsent (row_told policy ts x Absent o)
absent_row policy ts x None = tt
absent_row policy ts x (Some row) = (refl, tt)

absent_from : (policy : List ℕ) (ts : List Telling) (rows : List Row) (n : ℕ) (xs : List NamedPackage) → AllAbsent (reports_from policy ts rows None n xs)
absent_from policy ts rows n [] = tt
absent_from policy ts rows n (x ∷ xs) =
    absent_both (row_told policy ts x Absent (slice_get rows n)) (reports_from policy ts rows None (suc n) xs)
    (absent_row policy ts x (slice_get rows n)) (absent_from policy ts rows (suc n) xs)

absent_moved : (rs : List Report) → AllAbsent (map moved_report rs) → AllAbsent rs
absent_moved [] a = tt
absent_moved (r ∷ rs) a = (a.0, absent_moved rs a.1)

-- ---- all pass

abbrev AllFalse : List Bool → Type 0
AllFalse [] = ⊤
AllFalse (b ∷ bs) = (b ≡ false) × AllFalse bs

both : (a b : Bool) → (a && b) ≡ true → (a ≡ true) × (b ≡ true)
both true b e = (refl, e)
both false b e = absurd (false≢true e)

not_refused : (b k : Bool) → k ≡ false → (not b || (b && k)) ≡ true → b ≡ false
not_refused false k unknown e = refl
not_refused true k unknown e = absurd (false≢true (sym unknown ∙ e))

none_refused : (rs : List Report) → AllAbsent rs → list_all is_passed rs ≡ true → AllFalse (map is_told_refused rs)
none_refused [] a e = tt
none_refused (r ∷ rs) a e =
    let each = both (is_passed r) (list_all is_passed rs) e in
    (not_refused (is_refused r.verdict) (is_known_state r.baseline) (ap is_known_state a.0) each.0, none_refused rs a.1 each.1)

passing : (b : Bool) → not b ≡ false → b ≡ true
passing true e = refl
passing false e = absurd (true≢false e)

all_allowed : (c : Rows) (p : Rules) (js : List Judgement) (xs : List judged.Package) (rows : List Row) → AllZip (IsRow c p js) xs rows → AllFalse (map is_row_refused rows) → All (IsAllowed c p) xs
all_allowed c p js [] rows z f = All-nil (IsAllowed c p)
all_allowed c p js (x ∷ xs) [] z f = absurd z
all_allowed c p js (x ∷ xs) (row ∷ rows) z f =
    All-cons (IsAllowed c p) x xs (row.verdict, z.0.verdict, passing (passes row.verdict) f.0) (all_allowed c p js xs rows z.1 f.1)

-- ---- as many packages as rows

same_lengths : (path : List ℕ) (f : Listed) → length (map (named_as path) f.packages.items) ≡ length (map view_of f.packages.items)
same_lengths path f = length-map f.packages.items (named_as path) ∙ sym (length-map f.packages.items view_of)

as_many : (files : List Listed) → length (flat_map names_in files) ≡ length (flat_map views_in files)
as_many [] = refl
as_many (f ∷ fs) =
    length-append (names_in f) (flat_map names_in fs)
    ∙ ap (λ (n : ℕ). n + length (flat_map names_in fs)) (same_lengths (string_bytes f.path) f)
    ∙ ap (λ (n : ℕ). length (views_in f) + n) (as_many fs)
    ∙ sym (length-append (views_in f) (flat_map views_in fs))

no_known : (known : Option (Bor (List Bool))) → option_copied known ≡ None → known ≡ None
no_known None e = refl
no_known (Some k) e = absurd (none-some k.now (sym e))

told_allowed : (c : Rows) (p : Rules) (a : Request) (files : List Listed) (older : Option (Vec Listed)) (text : GateText)
    → older ≡ None → IsTold c p a files older text → text.is_passed ≡ true → AreAllowed c p files
told_allowed c p a files older text none is passed =
    let gated = is.gated in
    let report = gated.report in
    let told = is.tells.told in
    let are = is.tells.told_are in
    let xs = is.judges.judged.0 in
    let moved = is.judges.judged.1 in
    let reported = is.judges.judged.2 in
    let unknown : gated.before ≡ None = subst (λ (o : Option (Vec Listed)). IsBeforeOf c p o files report gated.before) none is.judges.before in
    let known : is.tells.known ≡ None = no_known is.tells.known (is.tells.known_are ∙ ap (option_map (λ (b : Before). b.known.items)) unknown) in
    let exact : map moved_report told ≡ reports_from a.policy.now are.tellings report.rows.items None 0 are.packages =
    subst (λ (k : Option (Bor (List Bool))). map moved_report told ≡ reports_from a.policy.now are.tellings report.rows.items k 0 are.packages) known are.exact in
    let absent : AllAbsent told = absent_moved told (subst AllAbsent (sym exact) (absent_from a.policy.now are.tellings report.rows.items 0 are.packages)) in
    let many : length are.packages ≡ length report.rows.items =
    sym (length-map are.packages moved_named) ∙ ap length are.named ∙ as_many gated.files.items
    ∙ ap (λ (fs : List Listed). length (flat_map views_in fs)) is.judges.files_are
    ∙ sym (ap length moved) ∙ length-map xs moved_package
    ∙ sym (AllZip-long (IsRow c p report.judgements.items) xs report.rows.items reported.rows) in
    let refused = (are.each many).refused in
    (xs, moved, all_allowed c p report.judgements.items xs report.rows.items reported.rows (subst AllFalse refused (none_refused told absent (sym is.tells.passed ∙ passed))))

-- ---- a run of status 0

left_none : (fs : List FileFault) (e : End) → status_by fs e < 1 → fs ≡ []
left_none [] e lt = refl
left_none (f ∷ fs) e lt = absurd (omega (arith, lt))

end_zero : (fs : List FileFault) (e : End) → status_by fs e < 1 → end_status e < 1
end_zero [] e lt = lt
end_zero (f ∷ fs) e lt = absurd (omega (arith, lt))

passed_if : (text : GateText) (b : Bool) → b ≡ text.is_passed → (if b then 0 else 1) < 1 → text.is_passed ≡ true
passed_if text true e lt = sym e
passed_if text false e lt = absurd (omega (arith, lt))

passed_by : (text : GateText) (there : Bool) → end_status (if there then end.Told text else end.NoPackage text) < 1 → text.is_passed ≡ true
passed_by text true lt = passed_if text text.is_passed refl lt
passed_by text false lt = absurd (omega (arith, lt))

passed_end : (text : GateText) (explain : Option (List ℕ)) (files : List Listed) → end_status (end_of text explain files) < 1 → text.is_passed ≡ true
passed_end text None files lt = passed_if text text.is_passed refl lt
passed_end text (Some name) files lt = passed_by text (has_package files name) lt

end_allowed : (s : Shelved) (c : Rows) (p : Rules) (a : Request) (files : List Listed) (e : End)
    → IsEnd s c p a files e → option_copied a.baseline ≡ None → end_status e < 1 → AreAllowed c p files
end_allowed s c p a files _ (no_file none) alone lt = absurd (omega (arith, lt))
end_allowed s c p a files _ (no_baseline f some is kept) alone lt = absurd (omega (arith, lt))
end_allowed s c p a files e (told older some is (text, is_told, end_is)) alone lt =
    let none : older ≡ None = subst (λ (o : Option (List ℕ)). IsOlderBy s a.wanted.source o older) alone is in
    told_allowed c p a files older text none is_told (passed_end text (option_copied a.look.explain) files (subst (λ (x : End). end_status x < 1) end_is lt))

pub all_are_allowed : (s : Shelved) (inside : InsideBytes) (replacements : List ℕ) (a : Request) (run : Run)
    → IsRun s inside replacements a run → status_of run < 1 → option_copied a.baseline ≡ None → AreAllAllowed s inside replacements a
all_are_allowed s inside replacements a run is lt alone = record {
  catalogue = is.catalogue;
  policy = is.policy;
  files = run.files.items;
  list_is = is.list_is;
  policy_is = is.policy_is;
  reads = whole s a.wanted (map path_in a.paths.now) run.files.items run.left_out.items is.runs.reads (left_none run.left_out.items run.end lt);
  pass = end_allowed s is.catalogue is.policy a run.files.items run.end is.runs.ends alone (end_zero run.left_out.items run.end lt);
}
