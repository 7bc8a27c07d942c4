use Rattle.std.proofs.Common.{◌∙◌}
use Rattle.std.specs.Result.{is_ok}
use Rattle.gate_told.proofs.Passing.{none_explained, unadded}
use Rattle.gate_told.proofs.forms.put_explanations.Goals as goal

pub returns-clause-silent : goal.returns-clause-silent
returns-clause-silent c none =
    c.extend_from_slice.ensures.items
    ∙ unadded (is_ok c.extend_from_slice.result) c.args.text.now.items c.as_slice.result.now
    (c.as_slice.ensures.value ∙ c.in_ok-explanations.ensures ∙ none_explained c.args.style c.args.name.now c.args.reports.now none)
