use Rattle.std.proofs.Common.{map, string_bytes}
use Rattle.check_files.specs.Tally.{tally_of}
use Rattle.check_files.proofs.Steps.{on_ok}
use Rattle.check_program.proofs.Ending.{owed}
use Rattle.line_engine.proofs.Known.{OnErr-always}
use Rattle.check_files.proofs.Begun.{on_err}
use Rattle.check_program.proofs.TreeBegun.{texts_begun, texts_unhad}
use Rattle.check_program.proofs.ends.tell_owed.Goals as goal

pub returns-clause-ok : goal.returns-clause-ok
returns-clause-ok g c =
    on_ok c.put_or_pass.result _ _
    (owed (g.S.Shelf.told c.args.shelf.now) c.args.check.now c.args.folder.now (map string_bytes c.args.used.now) (map string_bytes c.in_ok-texts.texts.files.items) c.in_ok-texts.texts.troubles.items
    (g.O.Sink.told c.args.output.now) (g.O.Sink.told c.put_or_pass.new.output) (g.T.Telling.told c.args.teller.now) (g.T.Telling.told c.put_or_pass.new.teller) (tally_of c.args.sums.now)
    (tally_of c.put_or_pass.new.sums) c.in_ok-texts.ensures)
    c.put_or_pass.ensures.ok

pub returns-in_err-texts-clause-begun : goal.returns-in_err-texts-clause-begun
returns-in_err-texts-clause-begun g c =
    OnErr-always c.from_residual.result _
    (texts_unhad (g.S.Shelf.told c.args.shelf.now) c.args.check.now c.args.folder.now (map string_bytes c.args.used.now) (tally_of c.args.sums.now) (g.O.Sink.told c.args.output.now)
    (g.T.Telling.told c.args.teller.now))

pub returns-clause-begun : goal.returns-clause-begun
returns-clause-begun g c =
    on_err c.put_or_pass.result _ _
    (texts_begun (g.S.Shelf.told c.args.shelf.now) c.args.check.now c.args.folder.now (map string_bytes c.args.used.now) (map string_bytes c.in_ok-texts.texts.files.items) (tally_of c.args.sums.now)
    c.in_ok-texts.texts.troubles.items (g.O.Sink.told c.args.output.now) (g.O.Sink.told c.put_or_pass.new.output) (g.T.Telling.told c.args.teller.now) (g.T.Telling.told c.put_or_pass.new.teller)
    c.in_ok-texts.ensures)
    c.put_or_pass.ensures.begun
