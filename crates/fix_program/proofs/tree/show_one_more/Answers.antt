use Rattle.fix_program.specs.Shown.{none}
use Rattle.fix_program.proofs.Shown.{one_shown}
use Rattle.fix_program.proofs.tree.show_one_more.Goals as goal

pub returns-then-not-matches : goal.returns-then-not-matches
returns-then-not-matches g c = none c.args.progress.now

pub returns-in_err-seen : goal.returns-in_err-seen
returns-in_err-seen g c = one_shown g.P.Progress.Shows c.args.progress.now c.seen.new.self c.seen.ensures

pub returns : goal.returns
returns g c = one_shown g.P.Progress.Shows c.args.progress.now c.seen.new.self c.seen.ensures
