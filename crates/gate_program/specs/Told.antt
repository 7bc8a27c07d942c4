-- What is told of the packages of a run.
use Rattle.std.specs.Prelude.{◌≡◌, ℕ, Bool, List, Option, length, map, flat_map, option_map, string_bytes}
use Rattle.std.specs.Borrow.{Bor}
use Rattle.std.specs.List.{AllZip}
use Rattle.spdx_requirement.specs.Rows.{Rows}
use Rattle.package_items.specs.declared.package.Package.{Package}
use Rattle.spdx_policy.specs.Rules.{Rules}
use Rattle.spdx_gate.specs.declared.judgement.Judgement.{Judgement}
use Rattle.spdx_gate.specs.declared.report.Report.{Report}
use Rattle.gate_forms.specs.declared.reports.Report as forms
use Rattle.gate_told.specs.declared.packages.NamedPackage.{NamedPackage}
use Rattle.gate_told.specs.Borrowed.{borrowed}
use Rattle.gate_told.specs.Moved.{moved_text}
use Rattle.gate_told.specs.Packages.{moved_report, reports_of, AreTold}
use Rattle.gate_told.specs.Texts.{IsReasonOf}
use Rattle.gate_told.specs.Told.{Telling, telling_of}
use Rattle.package_files.specs.declared.listed.Listed.{Listed}

-- a package of the file at that path, by its name and version
abbrev pub named_as : List ℕ → Package → NamedPackage
named_as path p = record {
  file = borrowed path;
  name = borrowed (string_bytes p.name);
  version = option_map (λ version. borrowed (string_bytes version)) p.version;
}

-- those of a file, in its order
abbrev pub names_in : Listed → List NamedPackage
names_in f = map (named_as (string_bytes f.path)) f.packages.items

-- the same, wherever its texts lie
abbrev pub moved_named : NamedPackage → NamedPackage
moved_named x = record {
  file = moved_text x.file;
  name = moved_text x.name;
  version = option_map moved_text x.version;
}

-- what is told of a judgement: the text's parts and what its refusal hangs on, or why it isn't read
abbrev pub IsTellingOf : Rows → Rules → Judgement → Telling → Type 0
IsTellingOf c p j t =
    (reason : List ℕ) × IsReasonOf c p (string_bytes j.text) j.outcome reason ×
    (t ≡ telling_of p reason j)

-- what is told of each package of the files, in their order: its file, name and version, and what
-- its row of the report says by the policy of that path
pub record IsToldOf (c : Rows) (p : Rules) (path : List ℕ) (files : List Listed)
    (known : Option (Bor (List Bool))) (report : Report) (told : List forms.Report) : Type 0 where
  pub tellings : List Telling
  pub packages : List NamedPackage
  pub tells : AllZip (IsTellingOf c p) report.judgements.items tellings
  pub named : map moved_named packages ≡ flat_map names_in files
  pub exact : map moved_report told ≡
      reports_of path tellings report.rows.items known packages
  pub each : length packages ≡ length report.rows.items →
      AreTold packages report.rows.items told
