use Rattle.std.proofs.lemmas.Result.{IfOk-weaker}
use Rattle.spdx_words.proofs.Building.{has_command}
use Rattle.spdx_words.proofs.command.with.Goals as goal

pub returns : goal.returns
returns c =
    IfOk-weaker c.subcommand.result _ _ (λ r adds shape alone. has_command _ _ r c.in_ok-bare.ensures.app alone adds) c.subcommand.ensures
