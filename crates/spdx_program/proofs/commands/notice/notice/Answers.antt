use Rattle.spdx_program.proofs.Ending.{notice_done}
use Rattle.spdx_program.specs.Ends.{world}
use Rattle.spdx_program.proofs.commands.notice.notice.Goals as goal

pub returns : goal.returns
returns g c =
    notice_done (world (g.S.Shelf.told c.args.shelf.now) c.args.inside) c.args.request.now c.asked-asked.result (g.O.Sink.told c.args.output.now) (g.O.Sink.told c.notice.new.output)
    (g.T.Listener.heard c.args.teller.now) (g.T.Listener.heard c.notice.new.listener) c.notice.result c.ended.result c.asked-asked.ensures c.ended.ensures
    c.notice.ensures.ok c.notice.ensures.err
