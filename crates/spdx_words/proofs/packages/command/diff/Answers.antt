use Rattle.std.proofs.Common.{codes, refl, ap, ◌∙◌}
use Rattle.std.proofs.lemmas.Result.{IfOk-weaker}
use Rattle.clap.specs.Walk.{texts}
use Rattle.spdx_words.specs.Commands as table
use Rattle.spdx_words.specs.Options.{with_value}
use Rattle.spdx_words.proofs.Building.{about, added, after_help, begun}
use Rattle.spdx_words.proofs.packages.command.diff.Goals as goal

pub returns : goal.returns
returns c =
    let formats : table.These table.change_formats = (c.as_slice.result, ap texts c.as_slice.ensures) in
    let start = begun (codes "diff") c.new.result c.new.ensures.app c.new.ensures.local in
    let told = after_help c.about.result c.after_help.result (about c.new.result c.about.result start c.about.ensures) c.after_help.ensures in
    let format = added _ _ told c.in_ok-arg.ensures (c.with_value.ensures ∙ ap (with_value (codes "text")) c.choice-format.ensures) refl in
    let policy = added _ _ format c.in_ok-arg-2.ensures c.option.ensures refl in
    let empty = added _ _ policy c.in_ok-arg-3.ensures c.flag.ensures refl in
    let summary = added _ _ empty c.in_ok-diff.ensures c.flag-2.ensures refl in
    let from = c.in_ok-sources.ensures.1 _ _ summary in
    let list = added _ _ from c.in_ok-arg-4.ensures c.list_file.ensures refl in
    let old = added _ _ list c.in_ok-arg-5.ensures c.file.ensures refl in
    IfOk-weaker c.arg-7.result _ _ (λ r adds. (formats, c.in_ok-sources.ensures.0, added _ r old adds c.file-2.ensures refl))
    c.arg-7.ensures
