use Rattle.std.proofs.Common.{arith}
use Rattle.spdx_list.proofs.Blanks.{rsplit_once_at}
use Rattle.spdx_list.proofs.forms.last_parts.Goals as goal

pub returns : goal.returns
returns c = rsplit_once_at 32 c.args.text.now _ c.rsplit_once.ensures.cases (omega arith)
