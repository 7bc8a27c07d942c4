-- Which report it is of whose policy is looked up what was of use, and what always holds then.
use Rattle.spdx_gate.specs.declared.report.Report.{Report}
use Rattle.spdx_gate.specs.declared.uses.Uses.TheInside.{Inside}
use Rattle.spdx_gate.specs.Used.{AreDecided, AreExceptions, AreClarifications}

abbrev pub report_used : Inside → Report
report_used u = u.report.now

-- the sets have just what was of use in that report
pub record AreOfUse (u : Inside) : Type 0 where
  pub entries : AreDecided u.entries u.report.now.judgements.items
  pub exceptions : AreExceptions u.exceptions u.report.now.rows.items
  pub clarifications : AreClarifications u.clarifications u.report.now.rows.items
