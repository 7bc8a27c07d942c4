use Rattle.finding_forms.proofs.Tokens.{begun, written}
use Rattle.gate_forms.proofs.SarifLaw.{level_are, rest_of, spliced}
use Rattle.gate_forms.proofs.sarif_form.put_result.Goals as goal

pub returns-clause-tokens : goal.returns-clause-tokens
returns-clause-tokens c =
    let w1 = written (begun c.args.writer.now.tokens) _ _ c.in_ok-begin_object.ensures.ok in
    let w2 = written w1 _ _ c.in_ok-key.ensures.ok in
    let w3 = written w2 _ _ (rw (c.word.ensures) at c.in_ok-string.ensures.ok) in
    let r1 = written (begun c.put_level.new.writer.tokens) _ _ c.in_ok-key-2.ensures.ok in
    let r2 = written r1 _ _ c.in_ok-put_message_object.ensures.tokens in
    let r3 = written r2 _ _ c.in_ok-key-3.ensures.ok in
    let r4 = written r3 _ _ c.in_ok-begin_array.ensures.ok in
    let r5 = written r4 _ _ c.in_ok-put_location.ensures.tokens in
    let r6 = written r5 _ _ c.in_ok-end_array.ensures.ok in
    let r7 = written r6 _ _ c.in_ok-end_object.ensures.ok in
    rw (level_are c.args.report.now.baseline (rest_of c.args.report.now)) (spliced _ w3 c.in_ok-put_level.ensures.tokens r7)
