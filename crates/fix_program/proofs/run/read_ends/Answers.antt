use Rattle.fix_program.specs.Shown.{none}
use Rattle.fix_program.proofs.run.read_ends.Goals as goal

pub returns-clause-shows : goal.returns-clause-shows
returns-clause-shows g c = none c.args.progress.now
