use Rattle.std.proofs.Common.{◌≡◌, suc, ◌+◌, ◌-◌, ◌<◌, sym, ◌∙◌, ap, subst, arith}
use Rattle.spdx_hints.proofs.Breaks.{last_none, last_some}
use Rattle.spdx_hints.proofs.around.begin_of.Goals as goal

pub returns-then-len-gt0-clause-value : goal.returns-then-len-gt0-clause-value
returns-then-len-gt0-clause-value c =
    let below : c.loop-at.at ≡ suc (c.loop-at.at - 1) = omega arith in
    let some = subst (λ k. 0 < k) c.break_len-len.ensures.value c.if-len-gt0.true in
    ap (λ k. c.loop-at.at - 1 + k) c.break_len-len.ensures.value
    ∙ sym (last_some c.args.text.now c.loop-at.at (c.loop-at.at - 1) below some) ∙ c.loop-at.invariant.1

pub loop-at-preserved : goal.loop-at-preserved
loop-at-preserved c =
    let below : c.loop-at.at ≡ suc (c.loop-at.at - 1) = omega arith in
    let none : c.break_len-len.result ≡ 0 = omega arith in
    (omega arith, sym (last_none c.args.text.now c.loop-at.at (c.loop-at.at - 1) below (sym c.break_len-len.ensures.value ∙ none)) ∙ c.loop-at.invariant.1)
