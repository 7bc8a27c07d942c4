use Rattle.check_program.specs.Runs.{inside_of}
use Rattle.check_program.proofs.Clean.{clean}
use Rattle.check_program.proofs.Logs.{writes_one_log}
use Rattle.check_program.proofs.run.check.Goals as goal

pub returns-clause-passes : goal.returns-clause-passes
returns-clause-passes g c = clean _ _ _ _ (g.S.Shelf.told c.args.shelf.now) (inside_of c.args.inside) c.args.request c.in_ok-status.status c.in_ok-status.ensures.ok

pub returns-clause-log : goal.returns-clause-log
returns-clause-log g c = writes_one_log (g.S.Shelf.told c.args.shelf.now) (inside_of c.args.inside) c.args.request

pub returns-in_err-status-clause-log : goal.returns-in_err-status-clause-log
returns-in_err-status-clause-log g c = writes_one_log (g.S.Shelf.told c.args.shelf.now) (inside_of c.args.inside) c.args.request
