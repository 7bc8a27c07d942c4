use Rattle.std.proofs.Common.{◌∙◌, true, false, sym}
use Rattle.check_files.specs.Tally.{tally_of}
use Rattle.check_files.proofs.Steps.{on_ok}
use Rattle.check_program.proofs.Streams.{at_path}
use Rattle.check_files.proofs.Begun.{on_err}
use Rattle.check_program.proofs.Begun.{at_path_begun}
use Rattle.check_program.proofs.lines.check_list.Goals as goal

pub returns-then-is_input-clause-ok : goal.returns-then-is_input-clause-ok
returns-then-is_input-clause-ok g c =
    on_ok c.check_input.result _ _
    (at_path true (g.S.Shelf.told c.args.shelf.now) c.args.check.now c.args.path.now (g.O.Sink.told c.args.output.now) (g.O.Sink.told c.check_input.new.output) (g.T.Telling.told c.args.teller.now)
    (g.T.Telling.told c.check_input.new.teller) (tally_of c.args.sums.now) (tally_of c.check_input.new.sums) (sym c.if-is_input.true ∙ c.is_input.ensures.value))
    c.check_input.ensures.ok

pub returns-else-is_input-clause-ok : goal.returns-else-is_input-clause-ok
returns-else-is_input-clause-ok g c =
    on_ok c.check_file.result _ _
    (at_path false (g.S.Shelf.told c.args.shelf.now) c.args.check.now c.args.path.now (g.O.Sink.told c.args.output.now) (g.O.Sink.told c.check_file.new.output) (g.T.Telling.told c.args.teller.now)
    (g.T.Telling.told c.check_file.new.teller) (tally_of c.args.sums.now) (tally_of c.check_file.new.sums) (sym c.if-is_input.false ∙ c.is_input.ensures.value))
    c.check_file.ensures.ok

pub returns-then-is_input-clause-begun : goal.returns-then-is_input-clause-begun
returns-then-is_input-clause-begun g c =
    on_err c.check_input.result _ _
    (at_path_begun true (g.S.Shelf.told c.args.shelf.now) c.args.check.now c.args.path.now (g.O.Sink.told c.args.output.now) (g.O.Sink.told c.check_input.new.output) (g.T.Telling.told c.args.teller.now)
    (g.T.Telling.told c.check_input.new.teller) (tally_of c.args.sums.now) (sym c.if-is_input.true ∙ c.is_input.ensures.value))
    c.check_input.ensures.begun

pub returns-else-is_input-clause-begun : goal.returns-else-is_input-clause-begun
returns-else-is_input-clause-begun g c =
    on_err c.check_file.result _ _
    (at_path_begun false (g.S.Shelf.told c.args.shelf.now) c.args.check.now c.args.path.now (g.O.Sink.told c.args.output.now) (g.O.Sink.told c.check_file.new.output) (g.T.Telling.told c.args.teller.now)
    (g.T.Telling.told c.check_file.new.teller) (tally_of c.args.sums.now) (sym c.if-is_input.false ∙ c.is_input.ensures.value))
    c.check_file.ensures.begun
