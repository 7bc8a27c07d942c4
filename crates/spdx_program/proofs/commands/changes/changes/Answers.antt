use Rattle.spdx_program.proofs.Ending.{changes_done}
use Rattle.spdx_program.specs.Ends.{world}
use Rattle.spdx_program.proofs.commands.changes.changes.Goals as goal

pub returns : goal.returns
returns g c =
    changes_done (world (g.S.Shelf.told c.args.shelf.now) c.args.inside) c.args.request.now c.asked-asked.result (g.O.Sink.told c.args.output.now) (g.O.Sink.told c.diff.new.output)
    (g.T.Listener.heard c.args.teller.now) (g.T.Listener.heard c.diff.new.listener) c.diff.result c.ended.result c.asked-asked.ensures c.ended.ensures c.diff.ensures.ok c.diff.ensures.err
