use Rattle.std.proofs.Common.{codes, refl}
use Rattle.std.proofs.lemmas.Result.{IfOk-weaker}
use Rattle.spdx_words.proofs.Building.{about, added, begun}
use Rattle.spdx_words.proofs.command.show.Goals as goal

pub returns : goal.returns
returns c =
    let start = begun (codes "show") c.new.result c.new.ensures.app c.new.ensures.local in
    let told = about c.new.result c.about.result start c.about.ensures in
    let list = added _ _ told c.in_ok-arg.ensures c.list_file.ensures refl in
    IfOk-weaker c.arg-2.result _ _ (λ r adds. added _ r list adds c.words.ensures refl) c.arg-2.ensures
