use Rattle.std.proofs.Common.{rules, sym, ◌∙◌, ap, ◌≡◌, Bool, true, false, ◌&&◌, get_or}
use Rattle.spdx_why.specs.Missing.{answer_in}
use Rattle.package_choices.proofs.Meeting.{met_at}
use Rattle.package_choices.proofs.allowed.asking.is_met.Goals as goal

pub returns-in-Some-true : goal.returns-in-Some-true
returns-in-Some-true c =
    let q = c.args.question.now in
    let at = met_at q.allowed.now q.numbers.items c.args.selection.now c.args.number 0 q.numbered c.requires in
    let is : answer_in q.allowed.now c.args.number ≡ true = c.if-question-number.true in
    let chosen : answer_in c.args.selection.now (get_or q.numbers.items c.args.number 0) ≡ true = search rules in
    sym (sym at ∙ ap (λ (b : Bool). b && answer_in c.args.selection.now (get_or q.numbers.items c.args.number 0)) is ∙ chosen)

pub returns-in_default-matches : goal.returns-in_default-matches
returns-in_default-matches c =
    let q = c.args.question.now in
    let at = met_at q.allowed.now q.numbers.items c.args.selection.now c.args.number 0 q.numbered c.requires in
    let is : answer_in q.allowed.now c.args.number ≡ true = c.if-question-number.true in
    let chosen : answer_in c.args.selection.now (get_or q.numbers.items c.args.number 0) ≡ false = search rules in
    sym (sym at ∙ ap (λ (b : Bool). b && answer_in c.args.selection.now (get_or q.numbers.items c.args.number 0)) is ∙ chosen)

pub returns-in_default-matches-2 : goal.returns-in_default-matches-2
returns-in_default-matches-2 c =
    let q = c.args.question.now in
    let at = met_at q.allowed.now q.numbers.items c.args.selection.now c.args.number 0 q.numbered c.requires in
    let is : answer_in q.allowed.now c.args.number ≡ true = c.if-question-number.true in
    let chosen : answer_in c.args.selection.now (get_or q.numbers.items c.args.number 0) ≡ false = search rules in
    sym (sym at ∙ ap (λ (b : Bool). b && answer_in c.args.selection.now (get_or q.numbers.items c.args.number 0)) is ∙ chosen)

pub returns-else-question-number : goal.returns-else-question-number
returns-else-question-number c =
    let q = c.args.question.now in
    let at = met_at q.allowed.now q.numbers.items c.args.selection.now c.args.number 0 q.numbered c.requires in
    let is : answer_in q.allowed.now c.args.number ≡ false = c.if-question-number.false in
    is ∙ sym (sym at ∙ ap (λ (b : Bool). b && answer_in c.args.selection.now (get_or q.numbers.items c.args.number 0)) is)
