-- How many packages of a report there are, and of which verdict.
use Rattle.std.specs.Prelude.{length, count_by}
use Rattle.gate_forms.specs.declared.reports.Totals.{Totals}
use Rattle.spdx_gate.specs.declared.report.Report.{Report}
use Rattle.spdx_gate.specs.Reports.{counts_allowed, counts_by_exception, counts_refused, counts_unstated}

abbrev pub totals_of : Report → Totals
totals_of report = record {
  packages = length report.rows.items;
  allowed = count_by (λ row. counts_allowed row.verdict) report.rows.items;
  by_exception = count_by (λ row. counts_by_exception row.verdict) report.rows.items;
  refused = count_by (λ row. counts_refused row.verdict) report.rows.items;
  unstated = count_by (λ row. counts_unstated row.verdict) report.rows.items;
}
