use Rattle.std.proofs.Common.{rules, sym, ◌∙◌, ap, ◌≡◌, Bool, true, false, cond, List, [], ◌∷◌, ◌++◌}
use Rattle.std.proofs.lemmas.List.{append-nil, map-append}
use Rattle.spdx_requirement.specs.declared.requirement.LicenseReq.{LicenseReq}
use Rattle.spdx_requirement.specs.Items.{Requirement, requirement_of}
use Rattle.spdx_requirement.specs.Equality.{same_requirement}
use Rattle.std.specs.List.{list_any}
use Rattle.package_choices.specs.Members.{shown}
use Rattle.package_choices.proofs.Growing.{among, any_shown}
use Rattle.package_choices.proofs.allowed.members.put_new.Goals as goal

pub returns-in_ok-push : goal.returns-in_ok-push
returns-in_ok-push c =
    let old = c.args.members.now.items in
    let r = requirement_of c.args.requirement.now in
    let fresh : among (shown old) r ≡ false =
    sym (any_shown (λ m. same_requirement m r) old)
    ∙ ap (λ (z : List LicenseReq). list_any (λ m. same_requirement (requirement_of m) r) z) (sym c.as_slice.ensures.value)
    ∙ sym c.is_among.ensures ∙ search rules in
    let copied : requirement_of c.in_ok-try_clone.field-0 ≡ r = search rules in
    ap (λ (z : List LicenseReq). shown z) c.in_ok-push.ensures.items
    ∙ map-append requirement_of old (c.in_ok-try_clone.field-0 ∷ [])
    ∙ ap (λ (q : Requirement). shown old ++ q ∷ []) copied
    ∙ ap (λ (b : Bool). shown old ++ cond b [] (r ∷ [])) (sym fresh)

pub returns-else-not-is_among : goal.returns-else-not-is_among
returns-else-not-is_among c =
    let old = c.args.members.now.items in
    let r = requirement_of c.args.requirement.now in
    let seen : among (shown old) r ≡ true =
    sym (any_shown (λ m. same_requirement m r) old)
    ∙ ap (λ (z : List LicenseReq). list_any (λ m. same_requirement (requirement_of m) r) z) (sym c.as_slice.ensures.value)
    ∙ sym c.is_among.ensures ∙ search rules in
    sym (append-nil (shown old)) ∙ ap (λ (b : Bool). shown old ++ cond b [] (r ∷ [])) (sym seen)
