use Rattle.std.proofs.Common.{codes}
use Rattle.spdx_words.proofs.Building.{about, after_help, begun, bin_name, or_help, subcommand_required, version}
use Rattle.spdx_words.proofs.command.bare.Goals as goal

pub returns : goal.returns
returns c =
    let start = begun (codes "spdx") c.new.result c.new.ensures.app c.new.ensures.local in
    let named = bin_name c.new.result c.in_ok-bin_name.field-0 start c.in_ok-bin_name.ensures.0 in
    let told = about _ c.about.result named c.about.ensures in
    let known = version c.about.result c.version.result told c.version.ensures in
    let wants = subcommand_required c.version.result c.subcommand_required.result known c.subcommand_required.ensures in
    let helps = or_help c.subcommand_required.result c.arg_required_else_help.result wants c.arg_required_else_help.ensures in
    after_help c.arg_required_else_help.result c.after_help.result helps c.after_help.ensures
