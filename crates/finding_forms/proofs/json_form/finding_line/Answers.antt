use Rattle.std.proofs.Common.{◌≡◌}
use Rattle.json.specs.Lex.{tokens}
use Rattle.json.specs.Print.{print}
use Rattle.json.specs.Tree.{json_tokens}
use Rattle.finding_forms.specs.Finding.{told}
use Rattle.finding_forms.specs.Json.{json_of}
use Rattle.finding_forms.proofs.Tokens.{begun, written}
use Rattle.finding_forms.proofs.JsonLaws.{reads_back_from}
use Rattle.finding_forms.proofs.json_form.finding_line.Goals as goal

pub returns-clause-reads_back : goal.returns-clause-reads_back
returns-clause-reads_back c =
    let w1 = written (begun c.new-writer.result.tokens) _ _ c.in_ok-begin_object.ensures.ok in
    let w2 = written w1 _ _ c.in_ok-put_place.ensures.tokens in
    let w3 = written w2 _ _ c.in_ok-put_fault.ensures.tokens in
    let w4 = written w3 _ _ c.in_ok-put_aid.ensures.tokens in
    let all : c.put_aid.new.writer.tokens ≡ json_tokens (json_of (told c.args.finding.now)) = rw c.new-writer.ensures.tokens at w4.is in
    let back : tokens (print c.put_aid.new.writer.tokens) ≡ c.put_aid.new.writer.tokens = c.into_inner-line.ensures.reads_back in
    reads_back_from (told c.args.finding.now) (rw all at back)
