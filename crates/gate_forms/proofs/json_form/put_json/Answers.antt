use Rattle.gate_forms.proofs.JsonLaws.{one_line-json_text}
use Rattle.gate_forms.proofs.json_form.put_json.Goals as goal

pub returns-then-not-is_refused-clause-one_line : goal.returns-then-not-is_refused-clause-one_line
returns-then-not-is_refused-clause-one_line c = one_line-json_text c.args.report.now

pub returns-in_err-line-clause-one_line : goal.returns-in_err-line-clause-one_line
returns-in_err-line-clause-one_line c = one_line-json_text c.args.report.now

pub returns-in_err-extend_from_slice-clause-one_line : goal.returns-in_err-extend_from_slice-clause-one_line
returns-in_err-extend_from_slice-clause-one_line c = one_line-json_text c.args.report.now

pub returns-clause-one_line : goal.returns-clause-one_line
returns-clause-one_line c = one_line-json_text c.args.report.now
