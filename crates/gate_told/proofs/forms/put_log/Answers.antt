use Rattle.std.specs.Prelude.{Result, Ok, Err, OnOk}
use Rattle.gate_told.proofs.Passing.{log_told}
use Rattle.gate_told.proofs.forms.put_log.Goals as goal

pub returns-clause-log : goal.returns-clause-log
returns-clause-log c = all c.put_sarif_ending.result (log_told c.args.version.now c.args.reports.now c.put_sarif_ending.ensures.reads_back)
  where
    all : {T E P : Type 0} (r : Result T E) → P → OnOk r P
    all (Ok x) p = p
    all (Err e) p = tt
