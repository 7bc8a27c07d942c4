use Rattle.check_files.specs.Tally.{tally_of}
use Rattle.check_files.proofs.Steps.{on_ok}
use Rattle.check_program.specs.Paths.{ways_of}
use Rattle.check_program.proofs.Paths.{unread}
use Rattle.check_files.proofs.Begun.{on_err}
use Rattle.check_program.proofs.Begun.{path_begun, path_unread}
use Rattle.check_program.proofs.path.check_path.Goals as goal

pub returns-in-Err-clause-ok : goal.returns-in-Err-clause-ok
returns-in-Err-clause-ok g c =
    on_ok c.pass_fault.result _ _
    (unread (g.S.Shelf.told c.args.shelf.now) c.args.check.now (ways_of c.args.ways) c.args.path.now c.in-Err.fault (g.O.Sink.told c.args.output.now) (g.T.Telling.told c.args.teller.now)
    (g.T.Telling.told c.pass_fault.new.teller) (tally_of c.args.sums.now) (tally_of c.pass_fault.new.sums) c.in-Err.ensures.err)
    c.pass_fault.ensures.ok

pub returns-in-Ok-clause-begun : goal.returns-in-Ok-clause-begun
returns-in-Ok-clause-begun g c =
    on_err c.check_as.result _ _
    (path_begun (g.S.Shelf.told c.args.shelf.now) c.args.check.now (ways_of c.args.ways) c.args.path.now c.in-Ok.reading (g.O.Sink.told c.args.output.now) (g.O.Sink.told c.check_as.new.output)
    (g.T.Telling.told c.args.teller.now) (g.T.Telling.told c.check_as.new.teller) (tally_of c.args.sums.now) c.in-Ok.ensures.ok)
    c.check_as.ensures.begun

pub returns-in-Err-clause-begun : goal.returns-in-Err-clause-begun
returns-in-Err-clause-begun g c =
    on_err c.pass_fault.result _ _
    (path_unread (g.S.Shelf.told c.args.shelf.now) c.args.check.now (ways_of c.args.ways) c.args.path.now (g.O.Sink.told c.args.output.now) (g.T.Telling.told c.args.teller.now)
    (g.T.Telling.told c.pass_fault.new.teller) (tally_of c.args.sums.now))
    c.pass_fault.ensures.memory
