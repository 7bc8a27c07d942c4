-- What would make all packages of a report pass.
use Rattle.std.specs.Prelude.{◌≡◌, ℕ, List, map, count_by}
use Rattle.gate_forms.specs.declared.reports.Need.{Need}
use Rattle.gate_forms.specs.declared.reports.Summary.{Summary}
use Rattle.spdx_gate.specs.declared.needs.Need as gate
use Rattle.spdx_gate.specs.declared.report.Report.{Report}
use Rattle.spdx_gate.specs.Needs.{entries_needed, is_unmet, is_unsought, need_entry, packages_needing, NeedsWork}
use Rattle.gate_told.specs.Borrowed.{borrowed}

abbrev pub told_needed : Need → List ℕ
told_needed n = n.entry.now

abbrev pub told_packages : Need → ℕ
told_packages n = n.packages

-- an entry, and how many packages need it
abbrev pub need_of : (List ℕ → ℕ) → List ℕ → Need
need_of packages text = record { entry = borrowed text; packages = packages text }

-- the entries that packages need, how many packages nothing helps, and for how many it wasn't
-- sought
abbrev pub summary_of : Report → Summary
summary_of report = record {
  needs = borrowed (map (need_of (packages_needing report)) (entries_needed report));
  unmet = count_by (is_unmet report.judgements.items) report.rows.items;
  not_sought = count_by (is_unsought report.judgements.items) report.rows.items;
}

-- with the entries that are told in `allow` each refused package passes that something helps
abbrev pub TellsEnough : Report → Type 0
TellsEnough report =
    (needs : List gate.Need) → map need_entry needs ≡ entries_needed report → NeedsWork report needs
