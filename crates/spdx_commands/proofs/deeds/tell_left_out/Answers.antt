use Rattle.spdx_commands.proofs.Doings.{told_left_out}
use Rattle.spdx_commands.proofs.deeds.tell_left_out.Goals as goal

pub returns-clause-ok : goal.returns-clause-ok
returns-clause-ok g c =
    told_left_out (g.T.Listener.heard c.args.listener.now) (g.T.Listener.heard c.tell.new.listener) c.args.trouble c.from.result c.tell.result c.from.ensures c.tell.ensures.status c.tell.ensures.told
