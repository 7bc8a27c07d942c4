use Rattle.spdx_program.proofs.Ending.{lists_done}
use Rattle.spdx_program.specs.Ends.{world}
use Rattle.spdx_program.proofs.commands.list.diff.diff.Goals as goal

pub returns : goal.returns
returns g c =
    lists_done (world (g.S.Shelf.told c.args.shelf.now) c.args.inside) c.args.request.now (g.O.Sink.told c.args.output.now) (g.O.Sink.told c.diff.new.output)
    c.diff.result c.passed.result c.alone.result c.passed.ensures c.alone.ensures c.diff.ensures.ok c.diff.ensures.err
