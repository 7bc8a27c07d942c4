use Rattle.spdx_gate.specs.Benches.{IsIndex}
use Rattle.spdx_gate.proofs.Rows.{Reporting}
use Rattle.spdx_gate.proofs.report.judge.Given as goal

abbrev pub invariant-loop-asked : goal.invariant-loop-asked
invariant-loop-asked l = record {
  report : Reporting l.catalogue l.policy l.packages l.asked-index l.judgements.items l.rows.items;
  index : IsIndex l.by_key l.judgements.items;
}
