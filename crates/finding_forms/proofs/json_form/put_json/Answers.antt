use Rattle.finding_forms.specs.Finding.{told}
use Rattle.finding_forms.proofs.JsonLaws.{one_line-json_text}
use Rattle.finding_forms.proofs.json_form.put_json.Goals as goal

pub returns-clause-one_line : goal.returns-clause-one_line
returns-clause-one_line c = one_line-json_text (told c.args.finding.now)
