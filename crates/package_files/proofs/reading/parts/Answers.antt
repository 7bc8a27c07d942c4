use Rattle.std.proofs.Common.{arith}
use Rattle.package_items.proofs.Slashes.{rsplit_once_at}
use Rattle.package_files.proofs.reading.parts.Goals as goal

pub returns : goal.returns
returns c = rsplit_once_at 47 c.args.path.now _ c.rsplit_once.ensures.cases (omega arith)
