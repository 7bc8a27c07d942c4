use Rattle.spdx_program.proofs.Ending.{check_done}
use Rattle.spdx_program.specs.Ends.{world}
use Rattle.spdx_program.proofs.commands.check.check_as.Goals as goal

pub returns : goal.returns
returns g c =
    check_done (world (g.S.Shelf.told c.args.shelf.now) c.args.inside) c.args.asked (g.O.Sink.told c.args.output.now) (g.O.Sink.told c.check-end.new.output)
    (g.T.Telling.told c.args.teller.now) (g.T.Telling.told c.check-end.new.teller) c.check-end.result c.or_trouble.result c.alone.result c.or_trouble.ensures c.alone.ensures
    c.check-end.ensures.ok c.check-end.ensures.err
