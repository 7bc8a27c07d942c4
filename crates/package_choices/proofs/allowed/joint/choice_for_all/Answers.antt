use Rattle.std.proofs.Common.{rules, arith, ◌≡◌, ◌∙◌, sym, ap, subst, List, length, map}
use Rattle.std.proofs.lemmas.List.{length-map}
use Rattle.spdx_requirement.specs.declared.requirement.LicenseReq.{LicenseReq}
use Rattle.spdx_requirement.specs.Items.{Requirement, requirement_of}
use Rattle.selections.specs.Selection.{IsLeast, NeedsEach, NoneSuffices}
use Rattle.package_choices.specs.declared.allowed.question.Question.{Question}
use Rattle.package_choices.specs.Choice.{Asked, offer_of, asked, members_of, asked_all, suffices_for, own_in, together}
use Rattle.package_choices.specs.Members.{shown}
use Rattle.package_choices.specs.Questions.{asked_of}
use Rattle.package_choices.specs.JudgeModel.{judged_questions, judged_count}
use Rattle.package_choices.proofs.Together.{joint_least, joint_unmet, of_judge, never}
use Rattle.package_choices.specs.Passes.{AreChosen}
use Rattle.package_choices.proofs.Passing.{everything_suffices, own_there}
use Rattle.package_choices.proofs.allowed.joint.choice_for_all.Goals as goal

pub returns-then-not-least_selection-clause-exact : goal.returns-then-not-least_selection-clause-exact
returns-then-not-least_selection-clause-exact c =
    let os = map offer_of c.args.offers.now in
    let ms = members_of os in
    let many : length c.in_ok-members.members.items ≡ length ms = sym (length-map c.in_ok-members.members.items requirement_of) ∙ ap (λ (z : List Requirement). length z) c.in_ok-members.ensures in
    let here : map asked_of c.as_slice-2.result.now ≡ asked_all os =
    ap (λ (z : List Question). map asked_of z) c.as_slice-2.ensures.value ∙ c.in_ok-questions.ensures
    ∙ ap (λ (z : List LicenseReq). map (asked (shown z)) os) c.as_slice.ensures.value ∙ ap (λ (z : List Requirement). map (asked z) os) c.in_ok-members.ensures in
    let all : judged_questions c.in_ok-judge.judge ≡ asked_all os = c.in_ok-judge.ensures.questions ∙ here in
    let count : judged_count c.in_ok-judge.judge ≡ length ms = omega (arith, c.in_ok-judge.ensures.count, c.len-count.ensures, many) in
    let none = c.least_selection.ensures.none_suffices (search rules) in
    sym (joint_unmet ms (asked_all os) (omega (arith, c.if-count-gt1024.false, c.len-count.ensures, many)) (of_judge NoneSuffices _ (asked_all os) _ _ all count none))

pub returns-clause-least : goal.returns-clause-least
returns-clause-least c =
    let os = map offer_of c.args.offers.now in
    let ms = members_of os in
    let s = c.least_selection.new.selection in
    let many : length c.in_ok-members.members.items ≡ length ms = sym (length-map c.in_ok-members.members.items requirement_of) ∙ ap (λ (z : List Requirement). length z) c.in_ok-members.ensures in
    let here : map asked_of c.as_slice-2.result.now ≡ asked_all os =
    ap (λ (z : List Question). map asked_of z) c.as_slice-2.ensures.value ∙ c.in_ok-questions.ensures
    ∙ ap (λ (z : List LicenseReq). map (asked (shown z)) os) c.as_slice.ensures.value ∙ ap (λ (z : List Requirement). map (asked z) os) c.in_ok-members.ensures in
    let all : judged_questions c.in_ok-judge.judge ≡ asked_all os = c.in_ok-judge.ensures.questions ∙ here in
    let count : judged_count c.in_ok-judge.judge ≡ length ms = omega (arith, c.in_ok-judge.ensures.count, c.len-count.ensures, many) in
    let least = c.least_selection.ensures.least (search rules) in
    let needed = c.least_selection.ensures.needed (search rules) in
    record {
      selection = s;
      least = of_judge (λ f n. IsLeast f n s) _ (asked_all os) _ _ all count least;
      needed = of_judge (λ f n. NeedsEach f s) _ (asked_all os) _ _ all count needed;
      own = c.in_ok-own_choices.ensures ∙ ap (λ (z : List Asked). map (own_in s) z) (ap (λ (z : List Question). map asked_of z) (c.as_slice-3.ensures.value ∙ sym c.as_slice-2.ensures.value) ∙ here);
    }

pub returns-clause-exact : goal.returns-clause-exact
returns-clause-exact c =
    let os = map offer_of c.args.offers.now in
    let ms = members_of os in
    let many : length c.in_ok-members.members.items ≡ length ms = sym (length-map c.in_ok-members.members.items requirement_of) ∙ ap (λ (z : List Requirement). length z) c.in_ok-members.ensures in
    let known = returns-clause-least c in
    ap together known.own ∙ sym (joint_least ms (asked_all os) known.selection (omega (arith, c.if-count-gt1024.false, c.len-count.ensures, many)) known.least)

pub returns-then-not-least_selection-clause-together : goal.returns-then-not-least_selection-clause-together
returns-then-not-least_selection-clause-together c h =
    let os = map offer_of c.args.offers.now in
    let ms = members_of os in
    let many : length c.in_ok-members.members.items ≡ length ms = sym (length-map c.in_ok-members.members.items requirement_of) ∙ ap (λ (z : List Requirement). length z) c.in_ok-members.ensures in
    let here : map asked_of c.as_slice-2.result.now ≡ asked_all os =
    ap (λ (z : List Question). map asked_of z) c.as_slice-2.ensures.value ∙ c.in_ok-questions.ensures
    ∙ ap (λ (z : List LicenseReq). map (asked (shown z)) os) c.as_slice.ensures.value ∙ ap (λ (z : List Requirement). map (asked z) os) c.in_ok-members.ensures in
    let all : judged_questions c.in_ok-judge.judge ≡ asked_all os = c.in_ok-judge.ensures.questions ∙ here in
    let count : judged_count c.in_ok-judge.judge ≡ length ms = omega (arith, c.in_ok-judge.ensures.count, c.len-count.ensures, many) in
    let none = c.least_selection.ensures.none_suffices (search rules) in
    never (suffices_for (asked_all os)) (length ms) (of_judge NoneSuffices _ (asked_all os) _ _ all count none) (everything_suffices os h)

pub returns-clause-together : goal.returns-clause-together
returns-clause-together c h =
    let os = map offer_of c.args.offers.now in
    let known = returns-clause-least c in
    subst AreChosen (sym known.own) (own_there (members_of os) os known.selection h known.least.sufficient)
