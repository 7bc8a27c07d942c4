use Rattle.spdx_program.proofs.Ending.{fix_done}
use Rattle.spdx_program.specs.Ends.{world}
use Rattle.spdx_commands.specs.Mend.{stand}
use Rattle.spdx_program.proofs.commands.fix.fix_as.Goals as goal

pub returns : goal.returns
returns g c =
    fix_done (world (g.S.Shelf.told c.args.shelf.now) c.args.inside) c.args.request.now c.asked-asked.result
    (stand (g.O.Sink.told c.args.output.now) (g.T.Listener.heard c.args.teller.now) (g.R.Replacing.tried c.args.replacer.now))
    (stand (g.O.Sink.told c.fix-end.new.output) (g.T.Listener.heard c.fix-end.new.listener) (g.R.Replacing.tried c.fix-end.new.replacer))
    c.fix-end.result c.alone.result c.asked-asked.ensures c.alone.ensures c.fix-end.ensures.ok c.fix-end.ensures.err
