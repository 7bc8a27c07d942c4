use Rattle.finding_forms.proofs.Tokens.{begun, written}
use Rattle.gate_forms.proofs.sarif_form.put_message_object.Goals as goal

pub returns-clause-tokens : goal.returns-clause-tokens
returns-clause-tokens c =
    let w1 = written (begun c.args.writer.now.tokens) _ _ c.in_ok-begin_object.ensures.ok in
    let w2 = written w1 _ _ c.in_ok-key.ensures.ok in
    let w3 = written w2 _ _ (rw (c.as_str.ensures.value, c.in_ok-put_message.ensures, c.new-message.ensures.bytes) at c.in_ok-string.ensures.ok) in
    (written w3 _ _ c.in_ok-end_object.ensures.ok).is
