-- What is told of each change, with what a policy says of the package that it leaves.
use Rattle.std.specs.Prelude.{◌≡◌, ℕ, suc, Bool, false, ◌&&◌, not, List, [], ◌∷◌, Option, None, Some, is_some, map, option_map, slice_get}
use Rattle.std.specs.List.{AllZip}
use Rattle.spdx_requirement.specs.Rows.{Rows}
use Rattle.spdx_policy.specs.Rules.{Rules}
use Rattle.spdx_gate.specs.declared.package.Package as judged
use Rattle.spdx_gate.specs.declared.package.Verdict.{Verdict}
use Rattle.spdx_gate.specs.declared.report.Report.{Report}
use Rattle.spdx_gate.specs.declared.report.Row as report
use Rattle.spdx_gate.specs.Reports.{IsReport, IsVerdictOf}
use Rattle.spdx_gate.specs.Verdicts.{passes}
use Rattle.gate_told.specs.Borrowed.{borrowed}
use Rattle.gate_told.specs.Moved.{moved_text}
use Rattle.gate_program.specs.Files.{moved_package}
use Rattle.package_changes.specs.Rows.{Row}
use Rattle.package_changes.specs.declared.tellings.Release.{Release}
use Rattle.package_changes.specs.declared.tellings.Telling.{Telling}
use Rattle.changes_program.specs.Said.{SaidRow}

-- ---- what a policy says

abbrev pub unless_empty : List ℕ → Option (List ℕ)
unless_empty [] = None
unless_empty (b ∷ bs) = Some (b ∷ bs)

-- the package as it is judged; one that went as a package of which nothing is stated
abbrev pub judged_if : Option Row → judged.Package
judged_if None = record { name = borrowed []; version = None; license = None }
judged_if (Some r) = record {
  name = borrowed r.name;
  version = option_map borrowed (unless_empty r.version);
  license = option_map borrowed (unless_empty r.license);
}

abbrev pub judged_of : SaidRow → judged.Package
judged_of s = judged_if s.new

-- the report of the packages that the changes leave, wherever their texts lie
abbrev pub IsJudgedBy : Rows → Rules → List SaidRow → Report → Type 0
IsJudgedBy c p said report =
    (xs : List judged.Package) × (map moved_package xs ≡ map judged_of said) ×
    IsReport c p xs report

abbrev pub row_at : Option Report → ℕ → Option report.Row
row_at None number = None
row_at (Some report) number = slice_get report.rows.items number

abbrev pub is_refused : Option report.Row → Bool
is_refused None = false
is_refused (Some row) = not (passes row.verdict)

-- ---- what is told

abbrev pub name_by : Option Row → Option Row → List ℕ
name_by (Some old) new = old.name
name_by None (Some new) = new.name
name_by None None = []

-- the package's name, as the older list has it, else as the newer one does
abbrev pub name_of : SaidRow → List ℕ
name_of s = name_by s.old s.new

abbrev pub release : Row → Release
release r = record { version = borrowed r.version; license = borrowed r.license }

abbrev pub release_of : Option Row → Option Release
release_of r = option_map release r

-- with whether a policy refuses what it leaves
abbrev pub telling_as : SaidRow → Bool → Telling
telling_as s refused = record {
  how = s.how;
  name = borrowed (name_of s);
  old = release_of s.old;
  new = release_of s.new;
  enough_before = borrowed s.enough_before;
  enough_now = borrowed s.enough_now;
  untold_before = s.untold_before;
  untold_now = s.untold_now;
  is_refused = refused;
}

abbrev pub telling_of : SaidRow → Option report.Row → Telling
telling_of s row = telling_as s (is_some s.new && is_refused row)

-- changes of which the first has that number, each with the row of its number
abbrev pub tellings_from : Option Report → ℕ → List SaidRow → List Telling
tellings_from report number [] = []
tellings_from report number (s ∷ ss) =
    telling_of s (row_at report number) ∷ tellings_from report (suc number) ss

abbrev pub tellings_of : Option Report → List SaidRow → List Telling
tellings_of report said = tellings_from report 0 said

-- ---- wherever texts lie

abbrev pub moved_one : Release → Release
moved_one r = record { version = moved_text r.version; license = moved_text r.license }

abbrev pub moved_release : Option Release → Option Release
moved_release r = option_map moved_one r

abbrev pub moved_telling : Telling → Telling
moved_telling t = record {
  how = t.how;
  name = moved_text t.name;
  old = moved_release t.old;
  new = moved_release t.new;
  enough_before = moved_text t.enough_before;
  enough_now = moved_text t.enough_now;
  untold_before = t.untold_before;
  untold_now = t.untold_now;
  is_refused = t.is_refused;
}

-- ---- by the policy's own definition

-- what went isn't marked; what came or stayed is, exactly where its verdict doesn't pass
abbrev pub IsMarkOf : Rows → Rules → Option Row → Bool → Type 0
IsMarkOf c p None refused = refused ≡ false
IsMarkOf c p (Some new) refused =
    (v : Verdict) × IsVerdictOf c p (judged_if (Some new)) v × (refused ≡ not (passes v))

-- without a policy nothing is marked
abbrev pub IsMark : Rows → Option Rules → Option Row → Bool → Type 0
IsMark c None new refused = refused ≡ false
IsMark c (Some p) new refused = IsMarkOf c p new refused

abbrev pub IsTelling : Rows → Option Rules → SaidRow → Telling → Type 0
IsTelling c p s t =
    IsMark c p s.new t.is_refused × (moved_telling t ≡ telling_as s t.is_refused)

-- what is told of each change that is said, in their order
abbrev pub AreTold : Rows → Option Rules → List SaidRow → List Telling → Type 0
AreTold c p said tellings = AllZip (IsTelling c p) said tellings
