use Rattle.std.proofs.Common.{◌≡◌, ℕ, List, ◌++◌, ◌∙◌, subst}
use Rattle.json.specs.Tree.{json_tokens}
use Rattle.finding_forms.specs.SarifLog.{artifact}
use Rattle.foreign_text.specs.Written.{text_for}
use Rattle.foreign_text.specs.declared.sinks.Sink.TheVariants.{Path}
use Rattle.finding_forms.proofs.Tokens.{begun, written}
use Rattle.gate_forms.proofs.sarif_form.put_location.Goals as goal

pub returns-clause-tokens : goal.returns-clause-tokens
returns-clause-tokens c =
    let path : c.as_str.result.now ≡ text_for Path c.args.report.now.file.now = c.as_str.ensures.value ∙ c.in_ok-path.ensures.value in
    let w1 = written (begun c.args.writer.now.tokens) _ _ c.in_ok-begin_object.ensures.ok in
    let w2 = written w1 _ _ c.in_ok-key.ensures.ok in
    let w3 = written w2 _ _ c.in_ok-begin_object-2.ensures.ok in
    let w4 = written w3 _ _ c.in_ok-key-2.ensures.ok in
    let w5 = written w4 _ _ (subst (λ (p : List ℕ). c.put_artifact.new.writer.tokens ≡ c.key-2.new.self.tokens ++ json_tokens (artifact p)) path c.in_ok-put_artifact.ensures.tokens) in
    let w6 = written w5 _ _ c.in_ok-end_object.ensures.ok in
    (written w6 _ _ c.in_ok-end_object-2.ensures.ok).is
