use Rattle.std.proofs.Common.{ℕ, Vec, sym, ◌∙◌, ap}
use Rattle.std.specs.List.{list_any}
use Rattle.std.specs.declared.alloc.Global.{Global}
use Rattle.spdx_why.specs.Missing.{answer_in}
use Rattle.spdx_why.proofs.Served.{met_before, met_by_served}
use Rattle.spdx_why.proofs.judge.is_met.Goals as goal

pub returns-then-accepted-number : goal.returns-then-accepted-number
returns-then-accepted-number c =
    c.if-accepted-number.true
    ∙ sym (met_before (answer_in c.args.selection.now) c.args.accepted.now c.args.serving.now c.args.number c.requires.served c.if-accepted-number.true)

pub returns-else-accepted-number : goal.returns-else-accepted-number
returns-else-accepted-number c =
    let chosen = answer_in c.args.selection.now in
    let list = c.index-serving-number.result in
    c.is_any_chosen.ensures
    ∙ ap (list_any chosen) (c.as_slice.ensures.value ∙ ap (λ (v : Vec ℕ Global). v.items) c.index-serving-number.is)
    ∙ met_by_served chosen c.args.accepted.now c.args.serving.now c.args.number list c.requires.served c.requires.within c.if-accepted-number.false
