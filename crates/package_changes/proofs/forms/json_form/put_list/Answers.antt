use Rattle.std.proofs.Common.{◌≤◌, length, arith}
use Rattle.finding_forms.proofs.Tokens.{begun, written}
use Rattle.package_changes.proofs.Documents.{item_tokens_all}
use Rattle.package_changes.proofs.forms.json_form.put_list.Goals as goal

pub returns-clause-tokens : goal.returns-clause-tokens
returns-clause-tokens c =
    let w1 = written (begun c.args.writer.now.tokens) _ _ c.in_ok-begin_array.ensures.ok in
    let w2 = written w1 _ _ c.loop-telling.invariant.1 in
    let w3 = written w2 _ _ c.in_ok-end_array.ensures.ok in
    let all : length c.args.tellings.now ≤ c.loop-telling.telling-index = omega arith in
    rw (← item_tokens_all c.args.tellings.now c.loop-telling.telling-index all) w3.is
