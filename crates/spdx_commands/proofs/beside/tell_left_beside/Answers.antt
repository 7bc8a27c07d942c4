use Rattle.spdx_commands.proofs.Besides.{begun, further}
use Rattle.spdx_commands.proofs.beside.tell_left_beside.Goals as goal

pub loop-path-init : goal.loop-path-init
loop-path-init g c = begun (g.S.Shelf.told c.args.shelf.now) c.new-folders.result (g.T.Listener.heard c.args.listener.now) c.new-folders.ensures.empty

pub loop-path-preserved : goal.loop-path-preserved
loop-path-preserved g c =
    further (g.S.Shelf.told c.args.shelf.now) c.loop-path.folders c.tell_beside.new.folders c.args.paths.now c.loop-path.path-index _
    (g.T.Listener.heard c.args.listener.now) (g.T.Listener.heard c.loop-path.listener) (g.T.Listener.heard c.tell_beside.new.listener) c.loop-path-test.true c.loop-path.invariant c.in_ok-tell_beside.ensures
