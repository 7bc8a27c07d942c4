use Rattle.std.proofs.Common.{[]}
use Rattle.line_engine.proofs.Known.{Appends-none, Consumes-none}
use Rattle.line_engine.proofs.lines.run.Goals as goal

-- nothing was read or answered
pub returns-in_default-clause-broken : goal.returns-in_default-clause-broken
returns-in_default-clause-broken g c = λ _. record {
  lines = record { bytes = []; read = Consumes-none _; written = Appends-none _ };
  known = c.requires.fresh;
}
