-- The packages of the files that are judged, as the policy judges them.
use Rattle.std.specs.Prelude.{◌≡◌, ℕ, List, Option, None, Some, map, flat_map, option_map, string_bytes}
use Rattle.spdx_requirement.specs.Rows.{Rows}
use Rattle.package_items.specs.declared.package.License.{License}
use Rattle.package_items.specs.declared.package.License.TheVariants as license
use Rattle.package_items.specs.declared.package.Package.{Package}
use Rattle.spdx_policy.specs.Rules.{Rules}
use Rattle.spdx_gate.specs.declared.package.Package as judged
use Rattle.spdx_gate.specs.declared.report.Report.{Report}
use Rattle.spdx_gate.specs.Reports.{IsReport}
use Rattle.gate_told.specs.Borrowed.{borrowed}
use Rattle.gate_told.specs.Moved.{moved_text}
use Rattle.package_files.specs.declared.listed.Listed.{Listed}

-- the text of a license, where one is stated
abbrev pub stated_in : License → Option (List ℕ)
stated_in license.Unstated = None
stated_in (license.Stated text) = Some (string_bytes text)

-- a package, as a policy judges it
abbrev pub view_of : Package → judged.Package
view_of p = record {
  name = borrowed (string_bytes p.name);
  version = option_map (λ version. borrowed (string_bytes version)) p.version;
  license = option_map borrowed (stated_in p.license);
}

-- those of a file, in its order
abbrev pub views_in : Listed → List judged.Package
views_in f = map view_of f.packages.items

-- the same package, wherever its texts lie
abbrev pub moved_package : judged.Package → judged.Package
moved_package x = record {
  name = moved_text x.name;
  version = option_map moved_text x.version;
  license = option_map moved_text x.license;
}

-- the report of the packages of all files, a row for each, in their order
abbrev pub IsReportOf : Rows → Rules → List Listed → Report → Type 0
IsReportOf c p files report =
    (xs : List judged.Package) × (map moved_package xs ≡ flat_map views_in files) ×
    IsReport c p xs report
