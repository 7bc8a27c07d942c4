use Rattle.std.proofs.Common.{◌≡◌, append_assoc}
use Rattle.json.specs.Lex.{tokens}
use Rattle.json.specs.Print.{print}
use Rattle.json.specs.Tree.{json_tokens}
use Rattle.gate_forms.specs.Json.{json_of, why_members}
use Rattle.gate_forms.proofs.JsonLaws.{baseline_are, reads_back_from}
use Rattle.gate_forms.proofs.json_form.report_line.Goals as goal

pub returns-clause-reads_back : goal.returns-clause-reads_back
returns-clause-reads_back c =
    let all : c.put_why_members.new.writer.tokens ≡ json_tokens (json_of c.args.report.now) =
    rw (baseline_are c.args.report.now.baseline (why_members c.args.report.now.why), c.in_ok-put_why_members.ensures.tokens, c.in_ok-put_verdict_members.ensures.tokens, c.in_ok-put_package_members.ensures.tokens, c.in_ok-begin_object.ensures.ok, c.new-writer.ensures.tokens) (simp append_assoc) in
    let back : tokens (print c.put_why_members.new.writer.tokens) ≡ c.put_why_members.new.writer.tokens = c.into_inner-line.ensures.reads_back in
    reads_back_from c.args.report.now (rw all at back)
