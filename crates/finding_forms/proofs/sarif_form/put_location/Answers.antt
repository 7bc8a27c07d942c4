use Rattle.finding_forms.proofs.Tokens.{begun, written}
use Rattle.finding_forms.proofs.sarif_form.put_location.Goals as goal

pub returns-clause-tokens : goal.returns-clause-tokens
returns-clause-tokens c =
    let w1 = written (begun c.args.writer.now.tokens) _ _ c.in_ok-begin_object.ensures.ok in
    let w2 = written w1 _ _ c.in_ok-key.ensures.ok in
    let w3 = written w2 _ _ c.in_ok-begin_object-2.ensures.ok in
    let w4 = written w3 _ _ c.in_ok-key-2.ensures.ok in
    let w5 = written w4 _ _ c.in_ok-put_artifact.ensures.tokens in
    let w6 = written w5 _ _ c.in_ok-key-3.ensures.ok in
    let w7 = written w6 _ _ (rw (c.sight-sight.ensures.line, c.sight-sight.ensures.column, c.fault.ensures) at c.in_ok-put_region.ensures.tokens) in
    let w8 = written w7 _ _ c.in_ok-key-4.ensures.ok in
    let w9 = written w8 _ _ c.in_ok-put_region-2.ensures.tokens in
    let w10 = written w9 _ _ c.in_ok-end_object.ensures.ok in
    (written w10 _ _ c.in_ok-end_object-2.ensures.ok).is
