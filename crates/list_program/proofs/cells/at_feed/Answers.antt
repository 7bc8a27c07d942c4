use Rattle.std.proofs.Common.{arith}
use Rattle.list_program.proofs.Parted.{parted_by}
use Rattle.list_program.proofs.cells.at_feed.Goals as goal

pub returns : goal.returns
returns c = parted_by 12 c.args.text.now c.split_once.result c.split_once.ensures.cases (omega arith)
