use Rattle.std.proofs.Common.{◌∷◌, ◌∙◌, suc, ap, drop, drop-cons, sym}
use Rattle.choice_program.specs.declared.picked.Picked.{Picked}
use Rattle.choice_program.proofs.Joining.{all_told, one_told}
use Rattle.choice_program.proofs.picked.all_parts.Goals as goal

pub loop-number-preserved : goal.loop-number-preserved
loop-number-preserved c =
    let n = c.loop-number.number in
    let own = c.args.own.now in
    let x = c.index-own-number.result in
    one_told c.args.remedies.now own n x c.in_ok-texts.texts c.loop-number.all.items c.push.new.self.items _
    c.in_ok-push.ensures.items c.in_ok-texts.ensures
    (drop-cons own n x c.loop-number-test.true ∙ ap (λ (z : Picked). z ∷ drop (suc n) own) (sym c.index-own-number.is))
    c.loop-number.invariant

pub returns : goal.returns
returns c = all_told c.args.remedies.now c.args.own.now c.loop-number.number c.loop-number.all.items _ c.loop-number-test.false c.loop-number.invariant
