use Rattle.fix_program.specs.Shown.{none}
use Rattle.fix_program.proofs.tree.tree_ends.Goals as goal

pub returns-in-Err-clause-shows : goal.returns-in-Err-clause-shows
returns-in-Err-clause-shows g c = none c.args.progress.now
