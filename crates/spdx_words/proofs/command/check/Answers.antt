use Rattle.std.proofs.Common.{codes, refl, ap, ◌∙◌}
use Rattle.std.proofs.lemmas.Result.{IfOk-weaker}
use Rattle.clap.specs.Walk.{texts}
use Rattle.spdx_words.specs.Commands as table
use Rattle.spdx_words.specs.Options.{with_value}
use Rattle.spdx_words.proofs.Building.{about, added, after_help, begun}
use Rattle.spdx_words.proofs.command.check.Goals as goal

pub returns : goal.returns
returns c =
    let formats : table.These table.finding_formats = (c.as_slice.result, ap texts c.as_slice.ensures) in
    let start = begun (codes "check") c.new.result c.new.ensures.app c.new.ensures.local in
    let told = after_help c.about.result c.after_help.result (about c.new.result c.about.result start c.about.ensures) c.after_help.ensures in
    let format = added _ _ told c.in_ok-arg.ensures (c.with_value.ensures ∙ ap (with_value (codes "human")) c.choice-format.ensures) refl in
    let strict = added _ _ format c.in_ok-arg-2.ensures c.flag-strict.ensures refl in
    let lax = added _ _ strict c.in_ok-arg-3.ensures c.lax.ensures refl in
    let headers = added _ _ lax c.in_ok-arg-4.ensures c.headers.ensures refl in
    let manifests = added _ _ headers c.in_ok-arg-5.ensures c.manifests.ensures refl in
    let form = added _ _ manifests c.in_ok-arg-6.ensures c.form.ensures.1 refl in
    let texts = added _ _ form c.in_ok-arg-7.ensures c.option.ensures refl in
    let untagged = added _ _ texts c.in_ok-arg-8.ensures c.flag.ensures refl in
    let list = added _ _ untagged c.in_ok-arg-9.ensures c.list_file.ensures refl in
    let quiet = added _ _ list c.in_ok-arg-10.ensures c.quiet.ensures refl in
    let summary = added _ _ quiet c.in_ok-arg-11.ensures c.flag-2.ensures refl in
    IfOk-weaker c.arg-12.result _ _ (λ r adds. (formats, c.form.ensures.0, added _ r summary adds c.paths.ensures refl))
    c.arg-12.ensures
