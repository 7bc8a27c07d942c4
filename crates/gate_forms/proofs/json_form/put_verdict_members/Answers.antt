use Rattle.finding_forms.proofs.Tokens.{begun, written}
use Rattle.gate_forms.proofs.json_form.put_verdict_members.Goals as goal

pub returns-clause-tokens : goal.returns-clause-tokens
returns-clause-tokens c =
    let w1 = written (begun c.args.writer.now.tokens) _ _ c.in_ok-key.ensures.ok in
    let w2 = written w1 _ _ c.in_ok-string.ensures.ok in
    let w3 = written w2 _ _ c.in_ok-key-2.ensures.ok in
    let w4 = written w3 _ _ (rw (c.word.ensures) at c.in_ok-string-2.ensures.ok) in
    (written w4 _ _ c.in_ok-put_baseline_member.ensures.tokens).is
