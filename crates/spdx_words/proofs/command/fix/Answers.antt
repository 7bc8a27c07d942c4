use Rattle.std.proofs.Common.{codes, refl}
use Rattle.std.proofs.lemmas.Result.{IfOk-weaker}
use Rattle.spdx_words.proofs.Building.{about, added, after_help, begun}
use Rattle.spdx_words.proofs.command.fix.Goals as goal

pub returns : goal.returns
returns c =
    let start = begun (codes "fix") c.new.result c.new.ensures.app c.new.ensures.local in
    let told = after_help c.about.result c.after_help.result (about c.new.result c.about.result start c.about.ensures) c.after_help.ensures in
    let write = added _ _ told c.in_ok-arg.ensures c.flag.ensures refl in
    let links = added _ _ write c.in_ok-arg-2.ensures c.flag-2.ensures refl in
    let headers = added _ _ links c.in_ok-arg-3.ensures c.headers.ensures refl in
    let manifests = added _ _ headers c.in_ok-arg-4.ensures c.manifests.ensures refl in
    let form = added _ _ manifests c.in_ok-arg-5.ensures c.form.ensures.1 refl in
    let list = added _ _ form c.in_ok-arg-6.ensures c.list_file.ensures refl in
    IfOk-weaker c.arg-7.result _ _ (λ r adds. (c.form.ensures.0, added _ r list adds c.paths.ensures refl)) c.arg-7.ensures
