use Rattle.std.proofs.Common.{codes}
use Rattle.check_files.specs.Tally.{tally_of}
use Rattle.check_files.proofs.Steps.{on_ok}
use Rattle.check_program.specs.Lines.{of_input}
use Rattle.check_program.proofs.Streams.{given, unopened}
use Rattle.check_files.proofs.Begun.{on_err}
use Rattle.check_program.proofs.Begun.{given_begun, unopened_begun}
use Rattle.check_program.proofs.lines.check_input.Goals as goal

pub returns-in-Ok-clause-ok : goal.returns-in-Ok-clause-ok
returns-in-Ok-clause-ok g c =
    let s = g.S.Shelf.told c.args.shelf.now in
    on_ok c.check_stream.result _ _
    (given (of_input s) c.args.check.now (codes "<stdin>") (g.S.Stdin.Source.told c.in-Ok.input) (g.S.Stdin.Source.MayFail c.in-Ok.input) (tally_of c.args.sums.now) (tally_of c.check_stream.new.sums)
    c.in-Ok.ensures.ok c.in-Ok.ensures.breaks (g.O.Sink.told c.args.output.now) (g.O.Sink.told c.check_stream.new.output) (g.T.Telling.told c.args.teller.now) (g.T.Telling.told c.check_stream.new.teller))
    c.check_stream.ensures.ok

pub returns-in-Err-clause-ok : goal.returns-in-Err-clause-ok
returns-in-Err-clause-ok g c =
    let s = g.S.Shelf.told c.args.shelf.now in
    on_ok c.pass_unread.result _ _
    (unopened (of_input s) c.args.check.now (codes "<stdin>") c.in-Err.error (g.O.Sink.told c.args.output.now) (g.T.Telling.told c.args.teller.now) (g.T.Telling.told c.pass_unread.new.teller) (tally_of c.args.sums.now)
    (tally_of c.pass_unread.new.sums) c.in-Err.ensures.err)
    c.pass_unread.ensures.ok

pub returns-in-Ok-clause-begun : goal.returns-in-Ok-clause-begun
returns-in-Ok-clause-begun g c =
    let s = g.S.Shelf.told c.args.shelf.now in
    on_err c.check_stream.result _ _
    (given_begun s.IsInput c.args.check.now (codes "<stdin>") (g.S.Stdin.Source.told c.in-Ok.input) (g.O.Sink.told c.args.output.now) (g.O.Sink.told c.check_stream.new.output) (g.T.Telling.told c.args.teller.now)
    (g.T.Telling.told c.check_stream.new.teller) (tally_of c.args.sums.now) c.in-Ok.ensures.ok)
    c.check_stream.ensures.begun

pub returns-in-Err-clause-begun : goal.returns-in-Err-clause-begun
returns-in-Err-clause-begun g c =
    let s = g.S.Shelf.told c.args.shelf.now in
    on_err c.pass_unread.result _ _
    (unopened_begun s.IsInput c.args.check.now (codes "<stdin>") (g.O.Sink.told c.args.output.now) (g.T.Telling.told c.args.teller.now) (g.T.Telling.told c.pass_unread.new.teller) (tally_of c.args.sums.now))
    c.pass_unread.ensures.memory
