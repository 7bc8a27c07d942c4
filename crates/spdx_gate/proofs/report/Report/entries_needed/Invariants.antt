use Rattle.std.proofs.Common.{◌≡◌, drop, flat_map}
use Rattle.std.specs.Prelude.{fold}
use Rattle.spdx_gate.specs.Counts.{Has}
use Rattle.spdx_gate.specs.Needs.{entries_needed, needed_by, texts_of, with_text}
use Rattle.spdx_gate.proofs.report.Report.entries_needed.Given as goal

abbrev pub invariant-loop-row : goal.invariant-loop-row
invariant-loop-row l =
    (Has l.met (texts_of l.entries.items))
    × (fold with_text (texts_of l.entries.items) (flat_map (needed_by l.self.judgements.items) (drop l.row-index l.rows)) ≡ entries_needed l.self)
