use Rattle.spdx_gate.proofs.OneReport.{one_report}
use Rattle.spdx_gate.proofs.laws.report_is_one.Goals as goal

pub returns : goal.returns
returns c = one_report
