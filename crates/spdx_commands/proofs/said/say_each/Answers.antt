use Rattle.std.proofs.Common.{rules}
use Rattle.std.proofs.lemmas.Iterator.Adapters.{YieldsList-from_vec}
use Rattle.std.proofs.lemmas.Iterator.Consumers.{YieldsList-so_far, YieldsList-turn}
use Rattle.spdx_commands.specs.Said.{AreCutShort}
use Rattle.spdx_commands.proofs.Saying.{at_one, broken_by, none_said, then_cut, then_said}
use Rattle.spdx_commands.proofs.said.say_each.Goals as goal

pub loop-said-init : goal.loop-said-init
loop-said-init g c = none_said (g.O.Sink.told c.args.output.now) (g.T.Listener.heard c.args.listener.now)

pub loop-said-preserved : goal.loop-said-preserved
loop-said-preserved g c =
    then_said (g.O.Sink.told c.args.output.now) (g.O.Sink.told c.loop-said.output) (g.O.Sink.told c.say.new.output) (g.T.Listener.heard c.args.listener.now) (g.T.Listener.heard c.loop-said.listener)
    (g.T.Listener.heard c.say.new.listener) c.loop-said.yielded c.in-Some.said c.loop-said.invariant c.in_ok-say.ensures.ok

pub returns-in_err-say-clause-err : goal.returns-in_err-say-clause-err
returns-in_err-say-clause-err g c =
    let a = g.O.Sink.told c.args.output.now in
    let b = g.O.Sink.told c.loop-said.output in
    let d = g.O.Sink.told c.say.new.output in
    let h = g.T.Listener.heard c.args.listener.now in
    let k = g.T.Listener.heard c.loop-said.listener in
    let l = g.T.Listener.heard c.say.new.listener in
    let list = YieldsList-from_vec {s = c.into_iter-said-iterator.result} c.args.all.items (search rules) (search rules) in
    let front = YieldsList-so_far list c.loop-said.yielded c.loop-said.said-iterator c.loop-said.yielded_by in
    let turn = YieldsList-turn list c.loop-said.yielded c.loop-said.said-iterator c.loop-said.yielded_by c.next.result c.next.new.self c.in-Some.said c.in-Some.is c.next.ensures.steps in
    broken_by (AreCutShort c.args.all.items a d h l) c.in_err-say.field-0.0
    (then_cut a b d h k l c.loop-said.yielded c.in-Some.said c.loop-said.invariant c.args.all.items _ c.in_err-say.field-0.0
    (at_one c.args.all.items c.loop-said.yielded c.in-Some.said front turn.0 turn.1) c.in_err-say.ensures.err)
    c.from_residual.result c.from_residual.ensures.1
