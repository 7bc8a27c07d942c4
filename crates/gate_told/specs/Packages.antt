-- What is told of the packages of a run: of each the verdict of its row.
use Rattle.std.specs.Prelude.{◌≡◌, ℕ, suc, Bool, true, false, not, List, [], ◌∷◌, ◌++◌, Option, Some, None, length, map, option_map, option_and_then, slice_get}
use Rattle.std.specs.Borrow.{Bor}
use Rattle.gate_forms.specs.declared.reports.Baseline.{Baseline}
use Rattle.gate_forms.specs.declared.reports.Baseline.TheVariants.{Absent, New, Known}
use Rattle.gate_forms.specs.declared.reports.Node.{Node}
use Rattle.gate_forms.specs.declared.reports.Report.{Report}
use Rattle.gate_forms.specs.declared.reports.Why.{Why}
use Rattle.gate_forms.specs.declared.reports.Why.TheVariants as why
use Rattle.gate_forms.specs.Report.{is_refused}
use Rattle.spdx_gate.specs.declared.package.Verdict.{Verdict}
use Rattle.spdx_gate.specs.declared.report.Row.{Row}
use Rattle.spdx_gate.specs.Verdicts.{passes}
use Rattle.gate_told.specs.declared.packages.NamedPackage.{NamedPackage}
use Rattle.gate_told.specs.Borrowed.{borrowed}
use Rattle.gate_told.specs.Moved.{moved_node, moved_text, moved_why}
use Rattle.gate_told.specs.Told.{Telling, told_verdict, told_why}

-- ---- a package

-- what is told of a text; nothing where none is judged
abbrev pub text_told : Option Telling → List ℕ
text_told None = []
text_told (Some t) = t.text

abbrev pub nodes_told : Option Telling → List Node
nodes_told None = []
nodes_told (Some t) = t.nodes

abbrev pub why_told : Option Telling → Verdict → Why
why_told None v = why.Nothing
why_told (Some t) v = told_why t v

abbrev pub report_with : List ℕ → NamedPackage → Option Telling → Verdict → Baseline → Report
report_with policy x telling v baseline = record {
  policy = borrowed policy;
  file = moved_text x.file;
  name = moved_text x.name;
  version = option_map moved_text x.version;
  expression = borrowed (text_told telling);
  verdict = told_verdict v;
  baseline = baseline;
  why = why_told telling v;
  nodes = borrowed (nodes_told telling);
}

-- what the judgement of a row tells
abbrev pub row_telling : List Telling → Row → Option Telling
row_telling ts row = option_and_then (slice_get ts) row.judgement

-- the package by its file, name and version; the verdict of the row, and what its judgement tells
abbrev pub report_of : List ℕ → List Telling → NamedPackage → Row → Baseline → Report
report_of policy ts x row baseline = report_with policy x (row_telling ts row) row.verdict baseline

-- whether the refusal of that number is known; where there is no baseline that isn't asked
abbrev pub state_by : Option Bool → Baseline
state_by None = New
state_by (Some true) = Known
state_by (Some false) = New

abbrev pub state_at : Option (Bor (List Bool)) → ℕ → Baseline
state_at None number = Absent
state_at (Some known) number = state_by (slice_get known.now number)

-- ---- all of them

abbrev pub row_told : List ℕ → List Telling → NamedPackage → Baseline → Option Row → List Report
row_told policy ts x baseline None = []
row_told policy ts x baseline (Some row) = report_of policy ts x row baseline ∷ []

-- packages of which the first has that number, each with the row of its number; one without a row
-- isn't told
abbrev pub reports_from : List ℕ → List Telling → List Row → Option (Bor (List Bool)) → ℕ →
    List NamedPackage → List Report
reports_from policy ts rows known number [] = []
reports_from policy ts rows known number (x ∷ xs) =
    row_told policy ts x (state_at known number) (slice_get rows number) ++
    reports_from policy ts rows known (suc number) xs

abbrev pub reports_of : List ℕ → List Telling → List Row → Option (Bor (List Bool)) →
    List NamedPackage → List Report
reports_of policy ts rows known xs = reports_from policy ts rows known 0 xs

-- wherever its texts lie
abbrev pub moved_report : Report → Report
moved_report r = record {
  policy = moved_text r.policy;
  file = moved_text r.file;
  name = moved_text r.name;
  version = option_map moved_text r.version;
  expression = moved_text r.expression;
  verdict = r.verdict;
  baseline = r.baseline;
  why = moved_why r.why;
  nodes = borrowed (map moved_node r.nodes.now);
}

-- ---- laws

abbrev pub report_file : Report → List ℕ
report_file r = r.file.now

abbrev pub report_name : Report → List ℕ
report_name r = r.name.now

abbrev pub package_file : NamedPackage → List ℕ
package_file x = x.file.now

abbrev pub package_name : NamedPackage → List ℕ
package_name x = x.name.now

abbrev pub is_told_refused : Report → Bool
is_told_refused r = is_refused r.verdict

abbrev pub is_row_refused : Row → Bool
is_row_refused row = not (passes row.verdict)

-- of as many packages as rows each is told, by its own file and name, and as refused exactly if its
-- row is
pub record AreTold (xs : List NamedPackage) (rows : List Row) (rs : List Report) : Type 0 where
  pub each : length rs ≡ length xs
  pub files : map report_file rs ≡ map package_file xs
  pub names : map report_name rs ≡ map package_name xs
  pub refused : map is_told_refused rs ≡ map is_row_refused rows
