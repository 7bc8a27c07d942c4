use Rattle.spdx_program.proofs.Ending.{compare_done}
use Rattle.spdx_program.specs.Ends.{world}
use Rattle.spdx_program.proofs.commands.compare.compare.Goals as goal

pub returns : goal.returns
returns g c =
    compare_done (world (g.S.Shelf.told c.args.shelf.now) c.args.inside) c.args.request.now (g.O.Sink.told c.args.output.now) (g.O.Sink.told c.compare.new.output)
    c.compare.result c.alone.result c.alone.ensures c.compare.ensures.ok c.compare.ensures.err
