use Rattle.std.proofs.Common.{◌≡◌, ℕ, List, ◌++◌, ◌∙◌, subst}
use Rattle.json.specs.Tree.{json_tokens, members_tokens}
use Rattle.finding_forms.specs.Sarif.{location, fix_members}
use Rattle.finding_forms.specs.Finding.{told}
use Rattle.foreign_text.specs.Written.{text_for}
use Rattle.foreign_text.specs.declared.sinks.Sink.TheVariants.{Path}
use Rattle.finding_forms.proofs.Tokens.{begun, written}
use Rattle.finding_forms.proofs.sarif_form.put_result.Goals as goal

pub returns-clause-tokens : goal.returns-clause-tokens
returns-clause-tokens c =
    let t = told c.args.finding.now in
    let path : c.as_str-2.result.now ≡ text_for Path t.file = c.as_str-2.ensures.value ∙ c.in_ok-path.ensures.value in
    let path_again : c.as_str-3.result.now ≡ text_for Path t.file = c.as_str-3.ensures.value ∙ c.in_ok-path.ensures.value in
    let w1 = written (begun c.args.writer.now.tokens) _ _ c.in_ok-begin_object.ensures.ok in
    let w2 = written w1 _ _ c.in_ok-key.ensures.ok in
    let w3 = written w2 _ _ (rw (c.as_str.ensures.value, c.in_ok-rule.ensures) at c.in_ok-string.ensures.ok) in
    let w4 = written w3 _ _ c.in_ok-key-2.ensures.ok in
    let w5 = written w4 _ _ c.in_ok-string-2.ensures.ok in
    let w6 = written w5 _ _ c.in_ok-key-3.ensures.ok in
    let w7 = written w6 _ _ c.in_ok-put_message_object.ensures.tokens in
    let w8 = written w7 _ _ c.in_ok-key-4.ensures.ok in
    let w9 = written w8 _ _ c.in_ok-begin_array.ensures.ok in
    let w10 = written w9 _ _ (subst (λ (p : List ℕ). c.put_location.new.writer.tokens ≡ c.begin_array.new.self.tokens ++ json_tokens (location p t)) path c.in_ok-put_location.ensures.tokens) in
    let w11 = written w10 _ _ c.in_ok-end_array.ensures.ok in
    (written w11 _ _ (subst (λ (p : List ℕ). c.put_fixes.new.writer.tokens ≡ c.end_array.new.self.tokens ++ members_tokens (fix_members p t)) path_again c.in_ok-put_fixes.ensures.tokens)).is
