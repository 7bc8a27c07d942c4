use Rattle.spdx_program.proofs.Ending.{gate_done}
use Rattle.spdx_program.specs.Ends.{world}
use Rattle.spdx_program.proofs.commands.gate.gate_as.Goals as goal

pub returns : goal.returns
returns g c =
    gate_done (world (g.S.Shelf.told c.args.shelf.now) c.args.inside) c.args.asked (g.O.Sink.told c.args.output.now) (g.O.Sink.told c.gate.new.output)
    (g.T.Listener.heard c.args.teller.now) (g.T.Listener.heard c.gate.new.listener) c.gate.result c.alone.result c.alone.ensures c.gate.ensures.ok c.gate.ensures.err
