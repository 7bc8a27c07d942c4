use Rattle.gate_told.proofs.Passing.{passing}
use Rattle.gate_told.proofs.Scopes.{enough}
use Rattle.gate_told.proofs.forms.put_verdicts.Goals as goal

pub returns-clause-enough : goal.returns-clause-enough
returns-clause-enough c = enough c.args.format c.args.policy.now c.args.totals.now

pub returns-in_err-put_format-clause-enough : goal.returns-in_err-put_format-clause-enough
returns-in_err-put_format-clause-enough c = enough c.args.format c.args.policy.now c.args.totals.now

pub returns-clause-passed : goal.returns-clause-passed
returns-clause-passed c of none = passing c.args.format c.args.policy.now c.args.totals.now c.args.reports.now of none

pub returns-in_err-put_format-clause-passed : goal.returns-in_err-put_format-clause-passed
returns-in_err-put_format-clause-passed c of none = passing c.args.format c.args.policy.now c.args.totals.now c.args.reports.now of none
