use Rattle.std.proofs.Common.{codes, refl}
use Rattle.std.proofs.lemmas.Result.{IfOk-weaker}
use Rattle.spdx_words.proofs.Building.{about, added, after_help, begun}
use Rattle.spdx_words.proofs.packages.command.notice.Goals as goal

pub returns : goal.returns
returns c =
    let start = begun (codes "notice") c.new.result c.new.ensures.app c.new.ensures.local in
    let told = after_help c.about.result c.after_help.result (about c.new.result c.about.result start c.about.ensures) c.after_help.ensures in
    let accept = added _ _ told c.in_ok-arg.ensures c.option-accept.ensures refl in
    let policy = added _ _ accept c.in_ok-notice.ensures c.option.ensures refl in
    let texts = c.in_ok-page_texts.ensures _ policy in
    IfOk-weaker c.page.result _ _ (λ r h. (h.0, h.1, h.2 _ texts)) c.page.ensures
