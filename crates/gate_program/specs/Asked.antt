-- The packages of a run, as their refusals would be.
use Rattle.std.specs.Prelude.{ℕ, suc, Bool, true, false, ◌&&◌, not, nat_eq, List, [], ◌∷◌, ◌++◌, Option, None, Some, flat_map, slice_get, string_bytes, codes, if◌then◌else◌}
use Rattle.std.specs.Borrow.{Bor}
use Rattle.std.specs.List.{starts_with}
use Rattle.std.specs.Option.{option_and_then}
use Rattle.package_items.specs.declared.package.Package.{Package}
use Rattle.package_items.specs.declared.package.Spot.{Spot}
use Rattle.package_items.specs.declared.package.Spot.TheVariants as spot
use Rattle.spdx_gate.specs.declared.judgement.Judgement.{Judgement}
use Rattle.spdx_gate.specs.declared.report.Report.{Report}
use Rattle.spdx_gate.specs.declared.report.Row.{Row}
use Rattle.spdx_gate.specs.Verdicts.{passes}
use Rattle.gate_program.specs.declared.known.Refusal.{Refusal}
use Rattle.gate_told.specs.Borrowed.{borrowed}
use Rattle.gate_told.specs.Moved.{moved_text}
use Rattle.gate_program.specs.declared.before.Asked.{Asked}
use Rattle.package_files.specs.declared.listed.Listed.{Listed}

-- those of all files, in their order
abbrev pub packages_in : List Listed → List Package
packages_in files = flat_map (λ (f : Listed). f.packages.items) files

abbrev pub lent : Bor Package → Package
lent p = p.now

abbrev pub is_line : Spot → Bool
is_line (spot.Line number) = true
is_line (spot.Record number) = false
is_line (spot.Pointer at) = false

-- the package's name, unless that is the number of its line, which changes as lines come and go
abbrev pub told_name : Package → List ℕ
told_name p =
    if is_line p.spot && starts_with nat_eq (string_bytes p.name) (codes "line ") then []
    else string_bytes p.name

abbrev pub judged_text : Option Judgement → List ℕ
judged_text None = []
judged_text (Some j) = string_bytes j.text

-- the text that was judged; empty where no license is stated
abbrev pub text_in : Report → Row → List ℕ
text_in report row =
    judged_text (option_and_then (slice_get report.judgements.items) row.judgement)

-- a package with this row, and whether it is refused
abbrev pub asked_as : Report → Package → Row → Asked
asked_as report p row = record {
  refusal = record { name = borrowed (told_name p); license = borrowed (text_in report row) };
  is_refused = not (passes row.verdict);
}

abbrev pub asked_at : Report → Package → Option Row → List Asked
asked_at report p None = []
asked_at report p (Some row) = asked_as report p row ∷ []

-- packages of which the first has that number, each with the row of its number
abbrev pub asked_from : Report → ℕ → List Package → List Asked
asked_from report number [] = []
asked_from report number (p ∷ ps) =
    asked_at report p (slice_get report.rows.items number) ++ asked_from report (suc number) ps

abbrev pub asked_of : Report → List Package → List Asked
asked_of report ps = asked_from report 0 ps

-- the same, wherever its texts lie
abbrev pub moved_asked : Asked → Asked
moved_asked a = record {
  refusal =
      record { name = moved_text a.refusal.name; license = moved_text a.refusal.license };
  is_refused = a.is_refused;
}

abbrev pub refusal_in : Asked → Refusal
refusal_in a = a.refusal
