use Rattle.std.proofs.Common.{refl}
use Rattle.std.proofs.lemmas.Result.{IfOk-weaker}
use Rattle.spdx_words.proofs.Building.{added_to, at_first}
use Rattle.spdx_words.proofs.packages.command.page_texts.Goals as goal

pub returns : goal.returns
returns c =
    IfOk-weaker c.arg-6.result _ _ (λ r adds options is.
    let start = at_first options c.args.notice is in
    let texts = added_to options _ _ _ start c.in_ok-arg.ensures c.option.ensures refl in
    let without = added_to options _ _ _ texts c.in_ok-arg-2.ensures c.flag-without_texts.ensures refl in
    let sources = added_to options _ _ _ without c.in_ok-arg-3.ensures c.own_texts_folder.ensures refl in
    let installed = added_to options _ _ _ sources c.in_ok-arg-4.ensures c.installed.ensures refl in
    let strict = added_to options _ _ _ installed c.in_ok-arg-5.ensures c.flag.ensures refl in
    added_to options _ _ r strict adds c.flag-2.ensures refl) c.arg-6.ensures
