use Rattle.std.proofs.Common.{codes}
use Rattle.std.proofs.lemmas.Result.{IfOk-weaker}
use Rattle.spdx_words.proofs.Building.{about, after_help, begun, has_command, or_help, subcommand_required}
use Rattle.spdx_words.proofs.command.list.Goals as goal

pub returns : goal.returns
returns c =
    let start = begun (codes "list") c.new.result c.new.ensures.app c.new.ensures.local in
    let told = about c.new.result c.about.result start c.about.ensures in
    let wants = subcommand_required c.about.result c.subcommand_required.result told c.subcommand_required.ensures in
    let helps = or_help c.subcommand_required.result c.arg_required_else_help.result wants c.arg_required_else_help.ensures in
    let all = after_help c.arg_required_else_help.result c.after_help.result helps c.after_help.ensures in
    let show = has_command _ _ _ all.app c.in_ok-show.ensures c.in_ok-subcommand.ensures in
    let make = has_command _ _ _ show c.in_ok-make.ensures c.in_ok-subcommand-2.ensures in
    IfOk-weaker c.subcommand-3.result _ _ (λ r adds. has_command _ _ r make c.in_ok-differ.ensures adds) c.subcommand-3.ensures
