use Rattle.spdx_program.proofs.Ending.{simplify_done}
use Rattle.spdx_program.specs.Ends.{world}
use Rattle.spdx_program.proofs.commands.simplify.simplify.Goals as goal

pub returns : goal.returns
returns g c =
    simplify_done (world (g.S.Shelf.told c.args.shelf.now) c.args.inside) c.args.request.now c.asked-asked.result (g.O.Sink.told c.args.output.now) (g.O.Sink.told c.simplify.new.output)
    (g.T.Listener.heard c.args.teller.now) (g.T.Listener.heard c.simplify.new.listener) c.simplify.result c.alone.result c.asked-asked.ensures c.alone.ensures
    c.simplify.ensures.ok c.simplify.ensures.err
