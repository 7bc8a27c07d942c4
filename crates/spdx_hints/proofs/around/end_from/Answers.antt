use Rattle.std.proofs.Common.{◌≡◌, ◌<◌, sym, ◌∙◌, subst, arith}
use Rattle.spdx_hints.proofs.Breaks.{end_none, end_some}
use Rattle.spdx_hints.proofs.around.end_from.Goals as goal

pub returns-then-break_len-gt0-clause-value : goal.returns-then-break_len-gt0-clause-value
returns-then-break_len-gt0-clause-value c =
    let some = subst (λ k. 0 < k) c.break_len.ensures.value c.if-break_len-gt0.true in
    sym (end_some c.args.text.now c.loop-at.at c.loop-at-test.true some) ∙ c.loop-at.invariant

pub loop-at-preserved : goal.loop-at-preserved
loop-at-preserved c =
    let none : c.break_len.result ≡ 0 = omega arith in
    sym (end_none c.args.text.now c.loop-at.at c.loop-at-test.true (sym c.break_len.ensures.value ∙ none)) ∙ c.loop-at.invariant
