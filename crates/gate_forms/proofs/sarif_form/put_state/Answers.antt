use Rattle.finding_forms.proofs.Tokens.{begun, written}
use Rattle.gate_forms.proofs.sarif_form.put_state.Goals as goal

pub returns-clause-tokens : goal.returns-clause-tokens
returns-clause-tokens c =
    let w1 = written (begun c.args.writer.now.tokens) _ _ c.in_ok-put_text_member.ensures.tokens in
    (written w1 _ _ c.in_ok-put_text_member-2.ensures.tokens).is
