use Rattle.std.proofs.Common.{◌≤◌, ◌∷◌, ◌++◌, ◌∙◌, ap, List, length, arith}
use Rattle.json.specs.Token.{Token}
use Rattle.license_notice.specs.Notices.{line_of}
use Rattle.notice_forms.specs.Json.{holder_json}
use Rattle.notice_forms.proofs.Documents.{items_written}
use Rattle.notice_forms.proofs.Pieces.{begun, written, ended}
use Rattle.notice_forms.proofs.json_form.put_holders.Goals as goal

pub returns-clause-tokens : goal.returns-clause-tokens
returns-clause-tokens c =
    let n = c.loop-release.release-index in
    let all : length c.args.packages.now ≤ n = omega arith in
    let w1 = written (begun c.args.writer.now.tokens) _ _ c.in_ok-begin_array.ensures.ok in
    let w2 = written w1 _ _ c.loop-release.invariant.1 in
    ended w2 _ _ c.in_ok-end_array.ensures.ok
    ∙ ap (λ (ts : List Token). c.args.writer.now.tokens ++ Token.begin_array ∷ ts) (items_written holder_json line_of c.args.packages.now n all)
