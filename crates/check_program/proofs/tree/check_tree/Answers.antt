use Rattle.check_files.specs.Tally.{tally_of}
use Rattle.check_files.proofs.Steps.{on_ok}
use Rattle.check_program.specs.Trees.{manner_of}
use Rattle.check_program.proofs.Ending.{tree_passed}
use Rattle.std.proofs.Common.{refl}
use Rattle.line_engine.proofs.Known.{OnErr-always}
use Rattle.check_files.proofs.Begun.{on_err}
use Rattle.check_program.proofs.TreeBegun.{tree_unseen}
use Rattle.check_program.proofs.tree.check_tree.Goals as goal

pub returns-in_ok-path-in-Err-clause-ok : goal.returns-in_ok-path-in-Err-clause-ok
returns-in_ok-path-in-Err-clause-ok g c =
    on_ok c.pass_over.result _ _
    (tree_passed (g.S.Shelf.told c.args.shelf.now) c.args.check.now (manner_of c.args.manner) c.args.path.now c.in_ok-path-in-Err.path c.in-Err.error (g.O.Sink.told c.args.output.now)
    (g.T.Telling.told c.args.teller.now) (g.T.Telling.told c.pass_over.new.teller) (tally_of c.args.sums.now) (tally_of c.pass_over.new.sums) c.in_ok-path-in-Err.ensures.ok c.in-Err.ensures.err)
    c.pass_over.ensures.ok

pub returns-in-Ok-clause-begun : goal.returns-in-Ok-clause-begun
returns-in-Ok-clause-begun g c = on_err c.check_below.result _ _ (λ so. so c.in-Ok.ensures.ok) c.check_below.ensures.begun

pub returns-in_err-path-in-Err-clause-begun : goal.returns-in_err-path-in-Err-clause-begun
returns-in_err-path-in-Err-clause-begun g c =
    OnErr-always c.from_residual.result _
    (tree_unseen (g.S.Shelf.told c.args.shelf.now) c.args.check.now (manner_of c.args.manner) c.args.path.now (tally_of c.args.sums.now) (g.O.Sink.told c.args.output.now)
    (g.T.Telling.told c.args.teller.now) (g.T.Telling.told c.args.teller.now) refl)

pub returns-in_ok-path-in-Err-clause-begun : goal.returns-in_ok-path-in-Err-clause-begun
returns-in_ok-path-in-Err-clause-begun g c =
    on_err c.pass_over.result _ _
    (tree_unseen (g.S.Shelf.told c.args.shelf.now) c.args.check.now (manner_of c.args.manner) c.args.path.now (tally_of c.args.sums.now) (g.O.Sink.told c.args.output.now)
    (g.T.Telling.told c.args.teller.now) (g.T.Telling.told c.pass_over.new.teller))
    c.pass_over.ensures.memory
