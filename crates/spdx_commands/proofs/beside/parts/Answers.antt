use Rattle.std.proofs.Common.{arith}
use Rattle.spdx_list.proofs.Blanks.{rsplit_once_at}
use Rattle.spdx_commands.proofs.beside.parts.Goals as goal

pub returns : goal.returns
returns c = rsplit_once_at 47 c.args.path.now _ c.rsplit_once.ensures.cases (omega arith)
