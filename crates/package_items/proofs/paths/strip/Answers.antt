use Rattle.package_items.proofs.Slashes.{strips}
use Rattle.package_items.proofs.paths.strip.Goals as goal

pub returns : goal.returns
returns c = strips c.args.start.now c.args.path.now c.strip_prefix.result c.strip_prefix.ensures.cases
