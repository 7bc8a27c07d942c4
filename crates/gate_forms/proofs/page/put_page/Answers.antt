use Rattle.gate_forms.proofs.Heads.{begins_plainly}
use Rattle.gate_forms.proofs.PageLaws.{no_added_markup}
use Rattle.gate_forms.proofs.page.put_page.Goals as goal

pub returns-clause-no_markup : goal.returns-clause-no_markup
returns-clause-no_markup c = no_added_markup c.args.policy.now c.args.totals.now c.args.reports.now

pub returns-in_err-page-clause-no_markup : goal.returns-in_err-page-clause-no_markup
returns-in_err-page-clause-no_markup c = no_added_markup c.args.policy.now c.args.totals.now c.args.reports.now

pub returns-clause-head : goal.returns-clause-head
returns-clause-head c = begins_plainly c.args.policy.now c.args.totals.now c.args.reports.now

pub returns-in_err-page-clause-head : goal.returns-in_err-page-clause-head
returns-in_err-page-clause-head c = begins_plainly c.args.policy.now c.args.totals.now c.args.reports.now
