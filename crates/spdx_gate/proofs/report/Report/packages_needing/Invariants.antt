use Rattle.std.proofs.Common.{◌≡◌, ℕ, List, take}
use Rattle.std.specs.Prelude.{count_by}
use Rattle.spdx_gate.specs.Counts.{count_in}
use Rattle.spdx_gate.specs.Needs.{is_among, needed_by}
use Rattle.spdx_gate.proofs.report.Report.packages_needing.Given as goal

abbrev pub invariant-loop-row : goal.invariant-loop-row
invariant-loop-row l =
    (q : List ℕ) → count_in l.packages q ≡ count_by (λ row. is_among (needed_by l.self.judgements.items row) q) (take l.row-index l.rows)
