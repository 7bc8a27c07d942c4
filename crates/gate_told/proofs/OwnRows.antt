-- Each package is told by its own row.
use Rattle.std.proofs.Common.{◌≡◌, ℕ, ◌+◌, ◌<◌, ◌≤◌, zero, suc, Bool, true, false, List, [], ◌∷◌, ◌++◌, get_or, length, map, drop, refl, sym, ap, ◌∙◌, add-one, append_assoc, arith}
use Rattle.std.specs.Borrow.{Bor}
use Rattle.std.specs.Prelude.{not, Option, None, Some, IfSome, slice_get}
use Rattle.std.specs.Option.{MatchOption, option_copied}
use Rattle.std.proofs.lemmas.Option.{slice_get_past, slice_get_read}
use Rattle.std.proofs.lemmas.List.{append-nil, length-map, map-append}
use Rattle.gate_forms.specs.declared.reports.Baseline.{Baseline}
use Rattle.gate_forms.specs.declared.reports.Report.{Report}
use Rattle.gate_forms.specs.Report.{is_refused}
use Rattle.spdx_gate.specs.declared.package.Verdict.{Verdict}
use Rattle.spdx_gate.specs.declared.package.Verdict.TheVariants as verdict
use Rattle.spdx_gate.specs.declared.report.Row.{Row}
use Rattle.spdx_gate.specs.Verdicts.{passes}
use Rattle.gate_told.specs.declared.packages.NamedPackage.{NamedPackage}
use Rattle.gate_told.specs.declared.packages.Scope.{Scope}
use Rattle.gate_told.specs.Borrowed.{borrowed}
use Rattle.gate_told.specs.Packages.{AreTold, is_row_refused, is_told_refused, moved_report, package_file, package_name, report_file, report_name, report_of, reports_from, reports_of, row_told, state_at}
use Rattle.gate_told.specs.Scopes.{AreToldIn, told_in}
use Rattle.gate_told.specs.Told.{Telling, told_verdict}
use Rattle.gate_told.proofs.Scopes.{told_both}

-- the row of a number, and those from it on
record RowAt (rows : List Row) (n : ℕ) : Type 0 where
  row : Row
  there : slice_get rows n ≡ Some row
  on : drop n rows ≡ row ∷ drop (suc n) rows

row_at : (rows : List Row) (n : ℕ) → n < length rows → RowAt rows n
row_at [] n lt = absurd (omega (arith, lt))
row_at (r ∷ rs) zero lt = record { row = r; there = refl; on = refl }
row_at (r ∷ rs) (suc n) lt =
    let rest : n < length rs = omega (arith, lt) in
    let at = row_at rs n rest in
    record { row = at.row; there = at.there; on = at.on }

-- what is read past the end
abbrev pub unnamed : NamedPackage
unnamed = record { file = borrowed []; name = borrowed []; version = None }

same_refused : (v : Verdict) → is_refused (told_verdict v) ≡ not (passes v)
same_refused verdict.Allowed = refl
same_refused verdict.ByException = refl
same_refused (verdict.Unstated true) = refl
same_refused (verdict.Unstated false) = refl
same_refused verdict.Unreadable = refl
same_refused verdict.Refused = refl

-- what is told of each report is that of its moved one
moved_same : {A : Type 0} (f : Report → A) → ((r : Report) → f (moved_report r) ≡ f r) → (rs : List Report) → map f (map moved_report rs) ≡ map f rs
moved_same f h [] = refl
moved_same f h (r ∷ rs) = ap (λ y. y ∷ map f (map moved_report rs)) (h r) ∙ ap (λ ys. f r ∷ ys) (moved_same f h rs)

drop_end : {X : Type 0} (xs : List X) (n : ℕ) → length xs ≤ n → drop n xs ≡ []
drop_end [] zero le = refl
drop_end [] (suc n) le = refl
drop_end (x ∷ xs) zero le = absurd (omega (arith, le))
drop_end (x ∷ xs) (suc n) le =
    let rest : length xs ≤ n = omega (arith, le) in
    drop_end xs n rest

next_report : (policy : List ℕ) (ts : List Telling) (rows : List Row) (known : Option (Bor (List Bool))) (n : ℕ) (x : NamedPackage) (xs : List NamedPackage) (row : Row) → slice_get rows n ≡ Some row
    → reports_from policy ts rows known n (x ∷ xs) ≡ report_of policy ts x row (state_at known n) ∷ reports_from policy ts rows known (suc n) xs
next_report policy ts rows known n x xs row e =
    ap (λ (o : Option Row). row_told policy ts x (state_at known n) o ++ reports_from policy ts rows known (suc n) xs) e

by_package : {A : Type 0} (f : Report → A) (g : NamedPackage → A) (policy : List ℕ) (ts : List Telling) (rows : List Row) (known : Option (Bor (List Bool)))
    → ((x : NamedPackage) (row : Row) (b : Baseline) → f (report_of policy ts x row b) ≡ g x)
    → (n : ℕ) (xs : List NamedPackage) → n + length xs ≡ length rows → map f (reports_from policy ts rows known n xs) ≡ map g xs
by_package f g policy ts rows known h n [] e = refl
by_package f g policy ts rows known h n (x ∷ xs) e =
    let within : n < length rows = omega (arith, e) in
    let rest : suc n + length xs ≡ length rows = omega (arith, e) in
    let at = row_at rows n within in
    ap (λ (rs : List Report). map f rs) (next_report policy ts rows known n x xs at.row at.there)
    ∙ ap (λ y. y ∷ map f (reports_from policy ts rows known (suc n) xs)) (h x at.row (state_at known n))
    ∙ ap (λ ys. g x ∷ ys) (by_package f g policy ts rows known h (suc n) xs rest)

by_row : {A : Type 0} (f : Report → A) (g : Row → A) (policy : List ℕ) (ts : List Telling) (rows : List Row) (known : Option (Bor (List Bool)))
    → ((x : NamedPackage) (row : Row) (b : Baseline) → f (report_of policy ts x row b) ≡ g row)
    → (n : ℕ) (xs : List NamedPackage) → n + length xs ≡ length rows → map f (reports_from policy ts rows known n xs) ≡ map g (drop n rows)
by_row f g policy ts rows known h n [] e =
    let end : length rows ≤ n = omega (arith, e) in
    sym (ap (λ (ys : List Row). map g ys) (drop_end rows n end))
by_row f g policy ts rows known h n (x ∷ xs) e =
    let within : n < length rows = omega (arith, e) in
    let rest : suc n + length xs ≡ length rows = omega (arith, e) in
    let at = row_at rows n within in
    ap (λ (rs : List Report). map f rs) (next_report policy ts rows known n x xs at.row at.there)
    ∙ ap (λ y. y ∷ map f (reports_from policy ts rows known (suc n) xs)) (h x at.row (state_at known n))
    ∙ ap (λ ys. g at.row ∷ ys) (by_row f g policy ts rows known h (suc n) xs rest)
    ∙ sym (ap (λ (ys : List Row). map g ys) at.on)

are_told : (policy : List ℕ) (ts : List Telling) (rows : List Row) (known : Option (Bor (List Bool))) (xs : List NamedPackage) (rs : List Report)
    → map moved_report rs ≡ reports_of policy ts rows known xs → length xs ≡ length rows → AreTold xs rows rs
are_told policy ts rows known xs rs told same =
    let all : 0 + length xs ≡ length rows = omega (arith, same) in
    let files : map report_file rs ≡ map package_file xs =
    sym (moved_same report_file (λ r. refl) rs) ∙ ap (map report_file) told
    ∙ by_package report_file package_file policy ts rows known (λ x row b. refl) 0 xs all in
    record {
      each = sym (length-map rs report_file) ∙ ap length files ∙ length-map xs package_file;
      files = files;
      names =
          sym (moved_same report_name (λ r. refl) rs) ∙ ap (map report_name) told
          ∙ by_package report_name package_name policy ts rows known (λ x row b. refl) 0 xs all;
      refused =
          sym (moved_same is_told_refused (λ r. refl) rs) ∙ ap (map is_told_refused) told
          ∙ by_row is_told_refused is_row_refused policy ts rows known (λ x row b. same_refused row.verdict) 0 xs all;
    }

-- one more package is told
one_told : (policy : List ℕ) (ts : List Telling) (rows : List Row) (known : Option (Bor (List Bool))) (xs : List NamedPackage) (n : ℕ) (x : NamedPackage) (b : Baseline) (o : Option Row) (told new whole : List Report)
    → map moved_report new ≡ map moved_report told ++ row_told policy ts x b o → b ≡ state_at known n → o ≡ slice_get rows n → drop n xs ≡ x ∷ drop (suc n) xs
    → map moved_report told ++ reports_from policy ts rows known n (drop n xs) ≡ whole
    → map moved_report new ++ reports_from policy ts rows known (n + 1) (drop (n + 1) xs) ≡ whole
one_told policy ts rows known xs n x b o told new whole e state row first before =
    let rest = reports_from policy ts rows known (suc n) (drop (suc n) xs) in
    ap (λ (m : ℕ). map moved_report new ++ reports_from policy ts rows known m (drop m xs)) (add-one n)
    ∙ ap (λ (rs : List Report). rs ++ rest) (e ∙ ap (λ (b : Baseline). map moved_report told ++ row_told policy ts x b o) state ∙ ap (λ (o : Option Row). map moved_report told ++ row_told policy ts x (state_at known n) o) row)
    ∙ append_assoc (map moved_report told) (row_told policy ts x (state_at known n) (slice_get rows n)) rest
    ∙ ap (λ (ys : List NamedPackage). map moved_report told ++ reports_from policy ts rows known n ys) (sym first)
    ∙ before

-- all packages are told
all_told : (policy : List ℕ) (ts : List Telling) (rows : List Row) (known : Option (Bor (List Bool))) (xs : List NamedPackage) (n : ℕ) (told whole : List Report) → length xs ≤ n
    → map moved_report told ++ reports_from policy ts rows known n (drop n xs) ≡ whole → map moved_report told ≡ whole
all_told policy ts rows known xs n told whole le e =
    sym (append-nil (map moved_report told))
    ∙ ap (λ (ys : List NamedPackage). map moved_report told ++ reports_from policy ts rows known n ys) (sym (drop_end xs n le))
    ∙ e

-- the reports of the packages so far, and what is told of those that come; the reports told are those in the scope
abbrev pub AreIn : Scope → List ℕ → List Telling → List Row → Option (Bor (List Bool)) → List NamedPackage → ℕ → List Report → Type 0
AreIn s policy ts rows known xs n told =
    (all : List Report) × (map moved_report all ++ reports_from policy ts rows known n (drop n xs) ≡ reports_of policy ts rows known xs) ×
    (told ≡ told_in s all)

pub one_in : (s : Scope) (policy : List ℕ) (ts : List Telling) (rows : List Row) (known : Option (Bor (List Bool))) (xs : List NamedPackage) (n : ℕ) (x : NamedPackage) (b : Baseline) (o : Option Row) (told new : List Report)
    → ((more : List Report) × (map moved_report more ≡ row_told policy ts x b o) × (new ≡ told ++ told_in s more)) → b ≡ state_at known n → o ≡ slice_get rows n → drop n xs ≡ x ∷ drop (suc n) xs
    → AreIn s policy ts rows known xs n told → AreIn s policy ts rows known xs (n + 1) new
one_in s policy ts rows known xs n x b o told new (more, more_are, new_are) state row first (all, before, told_are) = (
  all ++ more,
  one_told policy ts rows known xs n x b o all (all ++ more) (reports_of policy ts rows known xs)
      (map-append moved_report all more ∙ ap (λ (rs : List Report). map moved_report all ++ rs) more_are) state row first before,
  new_are ∙ ap (λ (rs : List Report). rs ++ told_in s more) told_are ∙ sym (told_both s all more),
)

pub all_in : (s : Scope) (policy : List ℕ) (ts : List Telling) (rows : List Row) (known : Option (Bor (List Bool))) (xs : List NamedPackage) (n : ℕ) (told : List Report) → length xs ≤ n
    → AreIn s policy ts rows known xs n told → AreToldIn s policy ts rows known xs told
all_in s policy ts rows known xs n told le (all, before, told_are) =
    let exact = all_told policy ts rows known xs n all (reports_of policy ts rows known xs) le before in
    record {
      all = all;
      exact = exact;
      each = are_told policy ts rows known xs all exact;
      told_are = told_are;
    }

-- the row that is looked up
pub found : (rows : List Row) (n : ℕ) (o : Option (Bor Row)) (P : Bor Row → Type 0) → IfSome o (λ x. x.now ≡ get_or rows n x.now)
    → MatchOption o (length rows ≤ n) (λ x. (n < length rows) × P x) → option_copied o ≡ slice_get rows n
found rows n None P is at = sym (slice_get_past rows n at)
found rows n (Some x) P is at = sym (slice_get_read rows (length rows) n x.now refl at.0 is)
