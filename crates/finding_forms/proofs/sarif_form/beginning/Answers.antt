use Rattle.std.proofs.Common.{rules, ◌≡◌}
use Rattle.json.specs.Print.{print}
use Rattle.finding_forms.specs.SarifLog.{beginning_tokens}
use Rattle.finding_forms.proofs.Tokens.{begun, written}
use Rattle.finding_forms.proofs.sarif_form.beginning.Goals as goal

pub returns : goal.returns
returns c =
    let w1 = written (begun c.new-writer.result.tokens) _ _ c.in_ok-begin_object.ensures.ok in
    let w2 = written w1 _ _ c.in_ok-key.ensures.ok in
    let w3 = written w2 _ _ c.in_ok-string.ensures.ok in
    let w4 = written w3 _ _ c.in_ok-key-2.ensures.ok in
    let w5 = written w4 _ _ c.in_ok-string-2.ensures.ok in
    let w6 = written w5 _ _ c.in_ok-key-3.ensures.ok in
    let w7 = written w6 _ _ c.in_ok-begin_array.ensures.ok in
    let w8 = written w7 _ _ c.in_ok-begin_object-2.ensures.ok in
    let w9 = written w8 _ _ c.in_ok-put_tool.ensures.tokens in
    let w10 = written w9 _ _ c.in_ok-key-4.ensures.ok in
    let w11 = written w10 _ _ c.in_ok-string-3.ensures.ok in
    let w12 = written w11 _ _ c.in_ok-key-5.ensures.ok in
    let w13 = written w12 _ _ c.in_ok-begin_array-2.ensures.ok in
    let all : c.begin_array-2.new.self.tokens ≡ beginning_tokens c.args.version.now = rw c.new-writer.ensures.tokens at w13.is in
    let bytes : c.into_inner.result.items ≡ print c.begin_array-2.new.self.tokens = search rules in
    rw (bytes, all)
