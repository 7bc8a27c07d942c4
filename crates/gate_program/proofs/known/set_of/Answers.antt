use Rattle.std.proofs.Common.{arith, ◌<◌, length, take, sym, subst}
use Rattle.std.proofs.lemmas.List.{take_more}
use Rattle.gate_program.specs.Sets.{Has}
use Rattle.gate_program.proofs.Laws.{has-insert}
use Rattle.gate_program.proofs.known.set_of.Goals as goal

pub loop-refusal-preserved : goal.loop-refusal-preserved
loop-refusal-preserved c =
    let all = c.args.refusals.now in
    let i = c.loop-refusal.refusal-index in
    let lt : i < length all = omega arith in
    subst (Has c.insert.new.self) (sym (take_more all i _ lt)) (has-insert c.loop-refusal.set c.insert.new.self (take i all) _ c.loop-refusal.invariant c.in_ok-insert.ensures.updates)
