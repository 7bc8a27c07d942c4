use Rattle.gate_forms.proofs.sarif_form.put_level.Goals as goal

pub returns-in-New-clause-tokens : goal.returns-in-New-clause-tokens
returns-in-New-clause-tokens c = rw c.in-New.is c.put_state.ensures.tokens
