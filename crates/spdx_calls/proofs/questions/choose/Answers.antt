use Rattle.std.proofs.Common.{◌≡◌, ℕ, List, [], ◌∷◌, ◌∙◌, map, ap, subst}
use Rattle.spdx_requirement.specs.declared.requirement.LicenseReq.{LicenseReq}
use Rattle.spdx_requirement.specs.Items.{Requirement, requirement_of}
use Rattle.spdx_minimize.specs.Choice.{choice_of, chosen}
use Rattle.spdx_calls.specs.Buffer.{IsPut}
use Rattle.spdx_calls.specs.Answers.{lines_text}
use Rattle.spdx_calls.proofs.questions.choose.Goals as goal

pub returns-in-Ok-clause-ok : goal.returns-in-Ok-clause-ok
returns-in-Ok-clause-ok c = record {
  expression = c.in_ok-expression.expression;
  read = c.in_ok-expression.ensures.ok;
  accepted = c.in_ok-accepted.accepted.items;
  named = c.in_ok-accepted.ensures.ok;
  choice = map requirement_of c.in-Ok.chosen.items;
  least = subst (λ (xs : List Requirement). choice_of (c.in_ok-expression.expression.tree ∷ []) xs ≡ chosen (map requirement_of c.in-Ok.chosen.items)) c.deref.ensures.value c.in-Ok.ensures.ok;
  is_put = subst (λ (text : List ℕ). IsPut text c.args.out.now c.put_text.new.out c.put_text.result)
      (c.deref-in-Ok-2.ensures.value ∙ c.in_ok-lines-in-Ok.ensures ∙ ap (λ (rs : List LicenseReq). lines_text (map requirement_of rs)) c.deref-in-Ok.ensures.value) c.put_text.ensures;
}
