use Rattle.std.proofs.Common.{codes, refl}
use Rattle.std.proofs.lemmas.Result.{IfOk-weaker}
use Rattle.spdx_words.proofs.Building.{about, added, after_help, begun}
use Rattle.spdx_words.proofs.command.simplify.Goals as goal

pub returns : goal.returns
returns c =
    let start = begun (codes "simplify") c.new.result c.new.ensures.app c.new.ensures.local in
    let told = after_help c.about.result c.after_help.result (about c.new.result c.about.result start c.about.ensures) c.after_help.ensures in
    let lax = added _ _ told c.in_ok-arg.ensures c.lax.ensures refl in
    let list = added _ _ lax c.in_ok-arg-2.ensures c.list_file.ensures refl in
    IfOk-weaker c.arg-3.result _ _ (λ r adds. added _ r list adds c.paths.ensures refl) c.arg-3.ensures
