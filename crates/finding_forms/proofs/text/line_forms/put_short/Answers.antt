use Rattle.finding_forms.specs.Finding.{told}
use Rattle.finding_forms.proofs.OneLine.{one_line-short}
use Rattle.finding_forms.proofs.text.line_forms.put_short.Goals as goal

pub returns-clause-one_line : goal.returns-clause-one_line
returns-clause-one_line c = one_line-short (told c.args.finding.now)

pub returns-in_err-short_frame-clause-one_line : goal.returns-in_err-short_frame-clause-one_line
returns-in_err-short_frame-clause-one_line c = one_line-short (told c.args.finding.now)
