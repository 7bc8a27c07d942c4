use Rattle.std.proofs.Common.{rules, ◌∷◌, []}
use Rattle.std.proofs.lemmas.Iterator.Adapters.{YieldsList-from_vec}
use Rattle.std.proofs.lemmas.Iterator.Consumers.{YieldsList-so_far}
use Rattle.line_engine.proofs.Known.{OnErr-always}
use Rattle.check_files.proofs.Doing.{hears_trans}
use Rattle.spdx_commands.proofs.Saying.{cut_short}
use Rattle.spdx_commands.proofs.said.tell_each.Goals as goal

pub loop-trouble-preserved : goal.loop-trouble-preserved
loop-trouble-preserved g c =
    hears_trans (g.T.Listener.heard c.args.listener.now) (g.T.Listener.heard c.loop-trouble.listener) (g.T.Listener.heard c.hear.new.self) c.loop-trouble.yielded (c.in-Some.trouble ∷ [])
    c.loop-trouble.invariant c.in_ok-hear.ensures.told

pub returns-in_err-hear-clause-begun : goal.returns-in_err-hear-clause-begun
returns-in_err-hear-clause-begun g c =
    let front = YieldsList-so_far (YieldsList-from_vec {s = c.into_iter-trouble-iterator.result} c.args.troubles.items (search rules) (search rules)) c.loop-trouble.yielded c.loop-trouble.trouble-iterator c.loop-trouble.yielded_by in
    OnErr-always c.from_residual.result _
    (cut_short (g.T.Listener.heard c.args.listener.now) (g.T.Listener.heard c.loop-trouble.listener) (g.T.Listener.heard c.hear.new.self) c.args.troubles.items c.loop-trouble.yielded
    front c.loop-trouble.invariant c.in_err-hear.ensures.memory)
