use Rattle.check_files.specs.Tally.{tally_of}
use Rattle.check_program.specs.Paths.{ways_of}
use Rattle.check_program.proofs.Paths.{begun, next}
use Rattle.line_engine.proofs.Known.{OnErr-always}
use Rattle.check_program.proofs.Begun.{paths_begun}
use Rattle.check_program.proofs.path.check_paths.Goals as goal

pub loop-path-init : goal.loop-path-init
loop-path-init g c =
    begun (g.S.Shelf.told c.args.shelf.now) c.args.check.now (ways_of c.args.ways) (g.O.Sink.told c.args.output.now) (g.T.Telling.told c.args.teller.now) (tally_of c.args.sums.now)

pub loop-path-preserved : goal.loop-path-preserved
loop-path-preserved g c =
    next (g.S.Shelf.told c.args.shelf.now) c.args.check.now (ways_of c.args.ways) c.args.paths.now c.loop-path.path-index _ (g.O.Sink.told c.args.output.now) (g.O.Sink.told c.loop-path.output)
    (g.O.Sink.told c.check_path.new.output) (g.T.Telling.told c.args.teller.now) (g.T.Telling.told c.loop-path.teller) (g.T.Telling.told c.check_path.new.teller) (tally_of c.args.sums.now)
    (tally_of c.loop-path.sums) (tally_of c.check_path.new.sums) c.loop-path-test.true c.loop-path.invariant c.in_ok-check_path.ensures.ok

pub returns-in_err-check_path-clause-begun : goal.returns-in_err-check_path-clause-begun
returns-in_err-check_path-clause-begun g c =
    OnErr-always c.from_residual.result _
    (paths_begun (g.S.Shelf.told c.args.shelf.now) c.args.check.now (ways_of c.args.ways) c.args.paths.now c.loop-path.path-index _ (g.O.Sink.told c.args.output.now) (g.O.Sink.told c.loop-path.output)
    (g.O.Sink.told c.check_path.new.output) (g.T.Telling.told c.args.teller.now) (g.T.Telling.told c.loop-path.teller) (g.T.Telling.told c.check_path.new.teller) (tally_of c.args.sums.now)
    (tally_of c.loop-path.sums) c.loop-path-test.true c.loop-path.invariant c.in_err-check_path.ensures.begun)
