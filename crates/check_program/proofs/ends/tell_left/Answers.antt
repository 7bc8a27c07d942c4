use Rattle.std.proofs.Common.{rules}
use Rattle.std.proofs.lemmas.Iterator.Adapters.{YieldsList-from_vec}
use Rattle.std.proofs.lemmas.Iterator.Consumers.{YieldsList-so_far}
use Rattle.line_engine.proofs.Known.{OnErr-always}
use Rattle.check_program.proofs.TreeBegun.{left_begun}
use Rattle.check_program.proofs.ends.tell_left.Goals as goal

pub returns-in_err-tell-clause-begun : goal.returns-in_err-tell-clause-begun
returns-in_err-tell-clause-begun g c =
    let list = YieldsList-from_vec {s = c.into_iter-path-iterator.result} c.args.left_behind.items (search rules) (search rules) in
    let front = YieldsList-so_far list c.loop-path.yielded c.loop-path.path-iterator c.loop-path.yielded_by in
    OnErr-always c.from_residual.result _
    (left_begun (g.T.Telling.told c.args.teller.now) (g.T.Telling.told c.loop-path.teller) (g.T.Telling.told c.tell.new.self) c.args.left_behind.items c.loop-path.yielded front
    c.loop-path.invariant c.in_err-tell.ensures.memory)
