use Rattle.spdx_program.proofs.Ending.{show_done}
use Rattle.spdx_program.specs.Ends.{world}
use Rattle.spdx_program.proofs.commands.list.show.show.Goals as goal

pub returns : goal.returns
returns g c =
    show_done (world (g.S.Shelf.told c.args.shelf.now) c.args.inside) c.args.request.now c.asked-asked.result (g.O.Sink.told c.args.output.now) (g.O.Sink.told c.show.new.output)
    (g.T.Listener.heard c.args.teller.now) (g.T.Listener.heard c.show.new.listener) c.show.result c.alone.result c.asked-asked.ensures c.alone.ensures
    c.show.ensures.ok c.show.ensures.err
