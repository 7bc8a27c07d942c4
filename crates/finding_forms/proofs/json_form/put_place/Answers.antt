use Rattle.finding_forms.proofs.Tokens.{begun, written}
use Rattle.finding_forms.proofs.json_form.put_place.Goals as goal

pub returns-clause-tokens : goal.returns-clause-tokens
returns-clause-tokens c =
    let w1 = written (begun c.args.writer.now.tokens) _ _ c.in_ok-key.ensures.ok in
    let w2 = written w1 _ _ c.in_ok-string.ensures.ok in
    let w3 = written w2 _ _ c.in_ok-key-2.ensures.ok in
    let w4 = written w3 _ _ (rw (c.sight-sight.ensures.line) at c.in_ok-u64.ensures.ok) in
    let w5 = written w4 _ _ c.in_ok-key-3.ensures.ok in
    (written w5 _ _ (rw (c.sight-sight.ensures.column) at c.in_ok-u64-2.ensures.ok)).is
