use Rattle.std.proofs.Common.{rules, ◌≡◌, ◌∙◌, sym, ap, subst, List, [], ℕ, ◌++◌, drop, length}
use Rattle.std.proofs.Math.Seq.{drop-append_seam}
use Rattle.std.proofs.lemmas.List.{take_rest}
use Rattle.spdx_minimize.specs.AcceptedModel.{licensees_of}
use Rattle.spdx_requirement.specs.Items.{Requirement}
use Rattle.spdx_lines.specs.declared.each_line.EachLine.{EachLine}
use Rattle.spdx_lines.specs.declared.remembered.Slot.{Slot}
use Rattle.spdx_lines.specs.Remembered.{AreAnswers}
use Rattle.spdx_lines.specs.Found.{rule_of}
use Rattle.spdx_lines.proofs.each_line.EachLineVerdicts.answer.Goals as goal

pub returns-in-Some-clause-text : goal.returns-in-Some-clause-text
returns-in-Some-clause-text c lines h =
    let each = c.args.self.now in
    let told = c.in-Some.ensures (rule_of each.catalogue.now each.mode (licensees_of each.accepted)) each.known in
    c.in_ok-extend_from_slice.ensures.items ∙ ap (λ (xs : List ℕ). c.args.text.now.items ++ xs) (c.answer.ensures ∙ told.0)

pub returns-in-Some-clause-refuses : goal.returns-in-Some-clause-refuses
returns-in-Some-clause-refuses c =
    let each = c.args.self.now in
    let told = c.in-Some.ensures (rule_of each.catalogue.now each.mode (licensees_of each.accepted)) each.known in
    c.is_refused.ensures ∙ told.1

-- what is known of some licensees is known of equal ones
of_same : (each : EachLine) (ls : List Requirement) (slots : List Slot) → ls ≡ licensees_of each.accepted
    → AreAnswers (rule_of each.catalogue.now each.mode (licensees_of each.accepted)) slots → AreAnswers (rule_of each.catalogue.now each.mode ls) slots
of_same each ls slots e known = subst (λ (z : List Requirement). AreAnswers (rule_of each.catalogue.now each.mode z) slots) (sym e) known

pub invariant_of-self : goal.invariant_of-self
invariant_of-self c = record { known = of_same c.args.self.now _ _ c.put_answer.ensures.licensees c.args.self.now.known }

pub invariant_of-self-2 : goal.invariant_of-self-2
invariant_of-self-2 c =
    let each = c.args.self.now in
    let rule = rule_of each.catalogue.now each.mode (licensees_of each.accepted) in
    let before = c.args.text.now.items in
    let answer = rule.text [] c.args.line.now in
    let start : c.len-start.result ≡ length before = search rules in
    record {
      known = of_same each _ _ c.put_answer.ensures.licensees (
          c.keep.ensures rule each.known
          (take_rest c.deref.result.now c.len-start.result
          ∙ ap (λ (n : ℕ). drop n c.deref.result.now) start
          ∙ ap (drop (length before)) (c.deref.ensures.value ∙ c.in_ok-is_refused.ensures.text)
          ∙ drop-append_seam before answer)
          c.in_ok-is_refused.ensures.refuses
          );
    }
