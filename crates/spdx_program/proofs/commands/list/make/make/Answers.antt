use Rattle.spdx_program.proofs.Ending.{make_done}
use Rattle.spdx_program.proofs.commands.list.make.make.Goals as goal

pub returns : goal.returns
returns g c =
    make_done (g.S.Shelf.told c.args.shelf.now) c.args.request.now (g.O.Sink.told c.args.output.now) (g.O.Sink.told c.make.new.output)
    c.make.result c.passed.result c.alone.result c.passed.ensures c.alone.ensures c.make.ensures.ok c.make.ensures.err
