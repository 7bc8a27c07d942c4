use Rattle.gate_forms.proofs.SarifLaw.{log_reads_back}
use Rattle.gate_forms.proofs.sarif_form.put_sarif_ending.Goals as goal

pub returns-clause-reads_back : goal.returns-clause-reads_back
returns-clause-reads_back c = log_reads_back
