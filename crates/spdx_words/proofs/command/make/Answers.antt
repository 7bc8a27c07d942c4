use Rattle.std.proofs.Common.{codes, refl}
use Rattle.std.proofs.lemmas.Result.{IfOk-weaker}
use Rattle.spdx_words.proofs.Building.{about, added, begun}
use Rattle.spdx_words.proofs.command.make.Goals as goal

pub returns : goal.returns
returns c =
    let start = begun (codes "make") c.new.result c.new.ensures.app c.new.ensures.local in
    let told = about c.new.result c.about.result start c.about.ensures in
    let licenses = added _ _ told c.in_ok-arg.ensures c.file.ensures refl in
    let exceptions = added _ _ licenses c.in_ok-arg-2.ensures c.file-2.ensures refl in
    IfOk-weaker c.arg-3.result _ _ (λ r adds. added _ r exceptions adds c.option.ensures refl) c.arg-3.ensures
