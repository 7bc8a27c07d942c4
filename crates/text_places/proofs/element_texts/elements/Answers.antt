use Rattle.std.proofs.Common.{◌≡◌, ◌+◌, ◌-◌, ◌<◌, ◌≤◌, ◌++◌, ℕ, List, length, drop, sym, ap, ◌∙◌, subst, append_assoc, arith}
use Rattle.std.specs.Option.{option_to_list}
use Rattle.std.proofs.lemmas.Bool.Decides.{nat_tests}
use Rattle.std.proofs.lemmas.List.{take_rest, length-drop}
use Rattle.text_places.specs.declared.element_texts.Element.{Element}
use Rattle.text_places.specs.declared.element_texts.Step.{Step}
use Rattle.text_places.specs.Elements.{step_at, elements_from, AreInOrder}
use Rattle.text_places.proofs.Reading.{elements_from-step}
use Rattle.text_places.proofs.FollowingTags.{AreInOrder-append, step_at-order}
use Rattle.text_places.proofs.element_texts.elements.Goals as goal

pub loop-rest-preserved : goal.loop-rest-preserved
loop-rest-preserved c =
    let name = c.args.name.now in
    let rest = c.loop-rest.rest.now in
    let found = c.loop-rest.found.items in
    let end = length c.args.bytes.now in
    let room = c.loop-rest.invariant.within in
    let is = c.step_at-step.ensures.value in
    let step = step_at name end rest in
    let some : 0 < length rest = grind (arith, nat_tests, c.loop-rest-test.ensures) in
    let read : 0 < step.read = omega (arith, ap (λ (s : Step). s.read) is, c.step_at-step.ensures.read) in
    let within : step.read ≤ length rest = omega (arith, ap (λ (s : Step). s.read) is, c.step_at-step.ensures.within) in
    let left = ap (λ (n : ℕ). drop n rest) (ap (λ (s : Step). s.read) (sym is)) ∙ sym (take_rest rest c.step_at-step.result.read) in
    let later = drop step.read rest in
    let items = ap (λ (s : Step). found ++ option_to_list s.element) (sym is) ∙ sym c.in_ok-push_some.ensures in
    record {
      within = omega (arith, ap length (sym left), length-drop step.read rest, room);
      values =
          c.loop-rest.invariant.values
          ∙ ap (λ (elements : List Element). found ++ elements) (elements_from-step name end rest some read)
          ∙ sym (append_assoc found (option_to_list step.element) (elements_from name end 0 later))
          ∙ ap (λ (elements : List Element). elements ++ elements_from name end 0 later) items
          ∙ ap (λ (xs : List ℕ). c.push_some.new.found.items ++ elements_from name end 0 xs) left;
      order =
          let here = step_at-order name end rest room in
          let all = AreInOrder-append 0 found (end - length rest) (option_to_list step.element) (end - length rest + step.read) c.loop-rest.invariant.order here in
          let high : end - length rest + step.read ≡ end - length later = omega (arith, length-drop step.read rest) in
          subst (λ (xs : List ℕ). AreInOrder 0 c.push_some.new.found.items (end - length xs)) left
          (subst (λ (elements : List Element). AreInOrder 0 elements (end - length later)) items
          (subst (AreInOrder 0 (found ++ option_to_list step.element)) high all));
    }
