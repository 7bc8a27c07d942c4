use Rattle.finding_forms.specs.Finding.{told}
use Rattle.finding_forms.proofs.OneLine.{one_line-github}
use Rattle.finding_forms.proofs.text.line_forms.put_github.Goals as goal

pub returns-clause-one_line : goal.returns-clause-one_line
returns-clause-one_line c = one_line-github (told c.args.finding.now)

pub returns-in_err-line-clause-one_line : goal.returns-in_err-line-clause-one_line
returns-in_err-line-clause-one_line c = one_line-github (told c.args.finding.now)
