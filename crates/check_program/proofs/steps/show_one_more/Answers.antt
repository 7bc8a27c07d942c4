use Rattle.check_files.proofs.Doing.{hears_nil}
use Rattle.check_program.proofs.steps.show_one_more.Goals as goal

pub returns-then-not-matches : goal.returns-then-not-matches
returns-then-not-matches g c = hears_nil (g.T.Telling.told c.args.teller.now)
