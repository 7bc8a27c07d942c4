use Rattle.std.proofs.Common.{refl}
use Rattle.std.proofs.lemmas.Result.{IfOk-weaker}
use Rattle.spdx_words.proofs.Building.{added_to, at_first}
use Rattle.spdx_words.proofs.packages.command.verdicts.Goals as goal

pub returns : goal.returns
returns c =
    IfOk-weaker c.arg-5.result _ _ (λ r adds options is.
    let start = at_first options c.args.gate is in
    let baseline = added_to options _ _ _ start c.in_ok-arg.ensures c.option.ensures refl in
    let explain = added_to options _ _ _ baseline c.in_ok-arg-2.ensures c.option-2.ensures refl in
    let quiet = added_to options _ _ _ explain c.in_ok-arg-3.ensures c.quiet.ensures refl in
    let empty = added_to options _ _ _ quiet c.in_ok-arg-4.ensures c.flag.ensures refl in
    added_to options _ _ r empty adds c.flag-2.ensures refl) c.arg-5.ensures
