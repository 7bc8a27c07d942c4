use Rattle.std.proofs.Common.{refl}
use Rattle.std.proofs.lemmas.Result.{IfOk-weaker}
use Rattle.spdx_words.proofs.Building.{added_to, at_first}
use Rattle.spdx_words.proofs.packages.command.pointers.Goals as goal

pub returns : goal.returns
returns c =
    IfOk-weaker c.arg-4.result _ _ (λ r adds name options is.
    let start = at_first options c.args.command is in
    let each = added_to options _ _ _ start c.in_ok-arg.ensures c.option.ensures refl in
    let names = added_to options _ _ _ each c.in_ok-arg-2.ensures c.option-2.ensures refl in
    let versions = added_to options _ _ _ names c.in_ok-arg-3.ensures c.option-3.ensures refl in
    added_to options _ _ r versions adds c.option-4.ensures refl) c.arg-4.ensures
