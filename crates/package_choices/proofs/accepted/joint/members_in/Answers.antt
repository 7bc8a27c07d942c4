use Rattle.std.proofs.Common.{rules, ◌≡◌, ◌∙◌, sym, ap, Bool, true, false, [], ◌∷◌, ◌++◌, map, get_or}
use Rattle.std.specs.List.{list_any}
use Rattle.std.proofs.lemmas.List.{append-nil}
use Rattle.spdx_requirement.specs.Equality.{same_requirement}
use Rattle.spdx_requirement.specs.Items.{Requirement, requirement_of}
use Rattle.package_choices.proofs.Places.{kept_more, any_in_map}
use Rattle.package_choices.proofs.accepted.joint.members_in.Goals as goal
use Rattle.package_choices.proofs.accepted.joint.members_in.Goals.{then-is_in+in_ok-try_clone+in_ok-push, else-is_in}

pub loop-licensee-preserved : goal.loop-licensee-preserved
loop-licensee-preserved c =
    let some = map requirement_of c.args.some.now in
    let is_among : Requirement → Bool = λ l. list_any (λ r. same_requirement r l) some in
    let ls = c.args.accepted.now in
    let i = c.loop-licensee.licensee-index in
    let one = c.licensee-item.result in
    let told : is_among (get_or ls i one) ≡ c.is_in.result = ap is_among (sym c.licensee-item.is) ∙ any_in_map (λ r. same_requirement r one) requirement_of c.args.some.now ∙ sym c.is_in.ensures in
    elim c.if-is_in.branch [
      | then-is_in+in_ok-try_clone+in_ok-push w ↦
          let copied : w.in_ok-try_clone.field-0 ≡ one = search rules in
          kept_more is_among ls i one true c.loop-licensee.members.items _ c.loop-licensee-test.true (told ∙ w.if-is_in.true) c.loop-licensee.invariant
          (rw w.members-is (w.in_ok-push.ensures.items ∙ ap (λ (r : Requirement). c.loop-licensee.members.items ++ r ∷ []) (copied ∙ c.licensee-item.is)))
      | else-is_in w ↦
          kept_more is_among ls i one false c.loop-licensee.members.items _ c.loop-licensee-test.true (told ∙ w.if-is_in.false) c.loop-licensee.invariant
          (rw w.members-is (sym (append-nil _)))
    ]
