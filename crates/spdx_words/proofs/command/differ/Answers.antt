use Rattle.std.proofs.Common.{codes, refl}
use Rattle.std.proofs.lemmas.Result.{IfOk-weaker}
use Rattle.spdx_words.proofs.Building.{about, added, begun}
use Rattle.spdx_words.proofs.command.differ.Goals as goal

pub returns : goal.returns
returns c =
    let start = begun (codes "diff") c.new.result c.new.ensures.app c.new.ensures.local in
    let told = about c.new.result c.about.result start c.about.ensures in
    let old = added _ _ told c.in_ok-arg.ensures c.file.ensures refl in
    IfOk-weaker c.arg-2.result _ _ (λ r adds. added _ r old adds c.optional_file.ensures refl) c.arg-2.ensures
