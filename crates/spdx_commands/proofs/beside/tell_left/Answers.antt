use Rattle.std.proofs.Common.{rules}
use Rattle.std.proofs.lemmas.Iterator.Adapters.{YieldsList-from_vec}
use Rattle.std.proofs.lemmas.Iterator.Consumers.{YieldsList-so_far}
use Rattle.line_engine.proofs.Known.{OnErr-always}
use Rattle.spdx_troubles.specs.declared.trouble.Trouble.TheVariants.{LeftBehind}
use Rattle.spdx_commands.proofs.Saying.{map_cut_short}
use Rattle.spdx_commands.proofs.beside.tell_left.Goals as goal

pub returns-in_err-hear-clause-begun : goal.returns-in_err-hear-clause-begun
returns-in_err-hear-clause-begun g c =
    let list = YieldsList-from_vec {s = c.into_iter-path-iterator.result} c.args.left.items (search rules) (search rules) in
    let front = YieldsList-so_far list c.loop-path.yielded c.loop-path.path-iterator c.loop-path.yielded_by in
    OnErr-always c.from_residual.result _
    (map_cut_short LeftBehind (g.T.Listener.heard c.args.listener.now) (g.T.Listener.heard c.loop-path.listener) (g.T.Listener.heard c.hear.new.self) c.args.left.items c.loop-path.yielded
    front c.loop-path.invariant c.in_err-hear.ensures.memory)
