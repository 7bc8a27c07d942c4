use Rattle.std.proofs.Common.{rules, arith, sym, ◌∙◌, ap, ◌≡◌, ◌<◌, ◌≤◌, Bool, false, List, [], ◌∷◌, ◌++◌, length, get_or}
use Rattle.std.proofs.lemmas.List.{take_more, take_all}
use Rattle.package_choices.specs.Choice.{met_in}
use Rattle.package_choices.specs.Questions.{asked_of}
use Rattle.package_choices.proofs.Meeting.{each_met}
use Rattle.package_choices.proofs.allowed.joint.met_of.Goals as goal

pub loop-number-preserved : goal.loop-number-preserved
loop-number-preserved c =
    let all = met_in (asked_of c.args.question.now) c.args.selection.now in
    let i = c.loop-number.number in
    let within : i < length all = omega (arith, c.loop-number-test.true, each_met c.args.selection.now c.args.question.now) in
    let made : c.push.new.self.items ≡ c.loop-number.answers.items ++ get_or all i false ∷ [] =
    c.in_ok-push.ensures.items ∙ ap (λ (b : Bool). c.loop-number.answers.items ++ b ∷ []) c.is_met.ensures in
    made ∙ ap (λ (z : List Bool). z ++ get_or all i false ∷ []) c.loop-number.invariant ∙ sym (take_more all i false within)

pub returns : goal.returns
returns c =
    let all = met_in (asked_of c.args.question.now) c.args.selection.now in
    let past : length c.args.question.now.allowed.now ≤ c.loop-number.number = search rules in
    c.loop-number.invariant ∙ take_all c.loop-number.number all (omega (arith, each_met c.args.selection.now c.args.question.now, past))
