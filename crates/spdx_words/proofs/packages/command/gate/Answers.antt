use Rattle.std.proofs.Common.{codes, refl, ap, ◌∙◌}
use Rattle.std.proofs.lemmas.Result.{IfOk-weaker}
use Rattle.clap.specs.Walk.{texts}
use Rattle.spdx_words.specs.Commands as table
use Rattle.spdx_words.specs.Options.{wanted, with_value}
use Rattle.spdx_words.proofs.Building.{about, added, after_help, begun}
use Rattle.spdx_words.proofs.packages.command.gate.Goals as goal

pub returns : goal.returns
returns c =
    let formats : table.These table.gate_formats = (c.as_slice.result, ap texts c.as_slice.ensures) in
    let start = begun (codes "gate") c.new.result c.new.ensures.app c.new.ensures.local in
    let told = after_help c.about.result c.after_help.result (about c.new.result c.about.result start c.about.ensures) c.after_help.ensures in
    let policy = added _ _ told c.in_ok-arg.ensures (c.wanted.ensures ∙ ap wanted c.option-policy.ensures) refl in
    let format = added _ _ policy c.in_ok-gate.ensures (c.with_value.ensures ∙ ap (with_value (codes "human")) c.choice-format.ensures) refl in
    let verdicts = c.in_ok-verdicts.ensures _ format in
    let from = c.in_ok-sources.ensures.1 _ _ verdicts in
    let list = added _ _ from c.in_ok-arg-2.ensures c.list_file.ensures refl in
    IfOk-weaker c.arg-4.result _ _ (λ r adds. (formats, c.in_ok-sources.ensures.0, added _ r list adds c.paths.ensures refl))
    c.arg-4.ensures
