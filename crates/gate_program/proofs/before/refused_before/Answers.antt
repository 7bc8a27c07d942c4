use Rattle.std.proofs.Common.{refl}
use Rattle.gate_program.proofs.before.refused_before.Goals as goal

pub returns : goal.returns
returns c = record {
  older_report = c.in_ok-older_report.older_report;
  older_are = refl;
  judged = rw c.deref.ensures.value at c.in_ok-older_report.ensures;
  known = rw c.deref-2.ensures.value at c.in_ok-known.ensures;
}
