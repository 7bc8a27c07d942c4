use Rattle.finding_forms.proofs.Tokens.{begun, written}
use Rattle.gate_forms.proofs.json_form.put_advice_members.Goals as goal

pub returns-in_ok-end_object-in-NotSought-clause-tokens : goal.returns-in_ok-end_object-in-NotSought-clause-tokens
returns-in_ok-end_object-in-NotSought-clause-tokens c =
    let w1 = written (begun c.args.writer.now.tokens) _ _ c.in_ok-key-in-NotSought.ensures.ok in
    let w2 = written w1 _ _ c.in_ok-u64-in-NotSought.ensures.ok in
    let w3 = written w2 _ _ c.in_ok-end_object-in-NotSought.ensures.ok in
    rw c.in-NotSought.is w3.is
