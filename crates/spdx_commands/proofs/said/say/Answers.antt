use Rattle.std.proofs.Common.{rules}
use Rattle.spdx_commands.specs.Said.{IsCutShort}
use Rattle.spdx_troubles.specs.declared.trouble.Trouble.TheVariants as trouble
use Rattle.spdx_commands.proofs.Saying.{all_said, broken_by, cut_before, cut_behind}
use Rattle.spdx_commands.proofs.said.say.Goals as goal

pub returns-in_err-tell_each-clause-err : goal.returns-in_err-tell_each-clause-err
returns-in_err-tell_each-clause-err g c =
    let out = g.O.Sink.told c.args.output.now in
    let h = g.T.Listener.heard c.args.listener.now in
    let k = g.T.Listener.heard c.tell_each.new.listener in
    broken_by (IsCutShort c.args.said out out h k) trouble.Memory (cut_before c.args.said out out h k k c.in_err-tell_each.ensures.begun) c.from_residual.result c.from_residual.ensures.1

pub returns-in_err-tell_each-2-clause-err : goal.returns-in_err-tell_each-2-clause-err
returns-in_err-tell_each-2-clause-err g c =
    let out = g.O.Sink.told c.args.output.now in
    let out' = g.O.Sink.told c.write_all.new.output in
    let h = g.T.Listener.heard c.args.listener.now in
    let k = g.T.Listener.heard c.tell_each.new.listener in
    let l = g.T.Listener.heard c.tell_each-2.new.listener in
    broken_by (IsCutShort c.args.said out out' h l) trouble.Memory
    (cut_behind c.args.said out out' h k l c.in_ok-tell_each.ensures.all (search rules) c.in_err-tell_each-2.ensures.begun) c.from_residual-in_err-tell_each-2.result
    c.from_residual-in_err-tell_each-2.ensures.1

pub returns-clause-ok : goal.returns-clause-ok
returns-clause-ok g c =
    all_said c.args.said (g.O.Sink.told c.args.output.now) (g.O.Sink.told c.write_all.new.output) (g.T.Listener.heard c.args.listener.now) (g.T.Listener.heard c.tell_each.new.listener)
    (g.T.Listener.heard c.tell_each-2.new.listener) c.in_ok-tell_each.ensures.all (search rules) c.in_ok-tell_each-2.ensures.all
