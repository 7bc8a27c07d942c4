use Rattle.spdx_commands.proofs.Breaking.{at_hindrance, at_try, broke}
use Rattle.std.proofs.Common.{refl}
use Rattle.spdx_commands.proofs.Doings.{hindered, memory_off, placed, tried, unwritten_off}
use Rattle.spdx_commands.proofs.deeds.place.Goals as goal

pub returns-in_err-add-in-Ok-clause-err : goal.returns-in_err-add-in-Ok-clause-err
returns-in_err-add-in-Ok-clause-err g c =
    memory_off (g.R.Replacing.tried c.args.replacer.now) (g.R.Replacing.tried c.replace.new.self) c.from_residual.result c.from_residual.ensures.1

pub returns-in_err-tell_loss-in-Ok-clause-err : goal.returns-in_err-tell_loss-in-Ok-clause-err
returns-in_err-tell_loss-in-Ok-clause-err g c =
    memory_off (g.R.Replacing.tried c.args.replacer.now) (g.R.Replacing.tried c.replace.new.self) c.from_residual-in_err-tell_loss-in-Ok.result c.from_residual-in_err-tell_loss-in-Ok.ensures.1

pub returns-in-Ok-clause-ok : goal.returns-in-Ok-clause-ok
returns-in-Ok-clause-ok g c = λ output.
    let k = g.R.Replacing.tried c.args.replacer.now in
    let m = g.R.Replacing.tried c.replace.new.self in
    placed output (g.T.Listener.heard c.args.listener.now) (g.T.Listener.heard c.tell_loss.new.listener) k m c.args.replaced.now c.add.new.self c.args.breaks_links c.args.new c.replace.result c.in-Ok.loss
    c.in-Ok.is (tried k m c.args.breaks_links c.args.new c.replace.result c.as_str.result.now c.deref.result.now c.as_str.ensures.value c.deref.ensures.value c.replace.ensures) c.in_ok-tell_loss-in-Ok.ensures.ok c.in_ok-add-in-Ok.ensures

pub returns-clause-ok : goal.returns-clause-ok
returns-clause-ok g c =
    let k = g.R.Replacing.tried c.args.replacer.now in
    let m = g.R.Replacing.tried c.replace.new.self in
    hindered (g.T.Listener.heard c.args.listener.now) (g.T.Listener.heard c.tell_hindrance.new.listener) k m c.args.replaced.now c.args.breaks_links c.args.new c.replace.result c.in-Err.obstacle c.tell_hindrance.result
    c.in-Err.is (tried k m c.args.breaks_links c.args.new c.replace.result c.as_str.result.now c.deref.result.now c.as_str.ensures.value c.deref.ensures.value c.replace.ensures)
    c.tell_hindrance.ensures.status c.tell_hindrance.ensures.told c.tell_hindrance.ensures.goes_on

pub returns-clause-err : goal.returns-clause-err
returns-clause-err g c =
    let k = g.R.Replacing.tried c.args.replacer.now in
    let m = g.R.Replacing.tried c.replace.new.self in
    unwritten_off k m c.args.breaks_links c.args.new c.replace.result c.in-Err.obstacle c.tell_hindrance.result c.in-Err.is
    (tried k m c.args.breaks_links c.args.new c.replace.result c.as_str.result.now c.deref.result.now c.as_str.ensures.value c.deref.ensures.value c.replace.ensures) c.tell_hindrance.ensures.err

pub returns-in_err-add-in-Ok-clause-begun : goal.returns-in_err-add-in-Ok-clause-begun
returns-in_err-add-in-Ok-clause-begun g c =
    let k = g.R.Replacing.tried c.args.replacer.now in
    let m = g.R.Replacing.tried c.replace.new.self in
    let h = g.T.Listener.heard c.args.listener.now in
    broke c.from_residual.result _ (λ out. at_try out h h k m c.args.breaks_links c.args.new c.replace.result (tried k m c.args.breaks_links c.args.new c.replace.result c.as_str.result.now c.deref.result.now c.as_str.ensures.value c.deref.ensures.value c.replace.ensures) refl)

pub returns-in_err-tell_loss-in-Ok-clause-begun : goal.returns-in_err-tell_loss-in-Ok-clause-begun
returns-in_err-tell_loss-in-Ok-clause-begun g c =
    let k = g.R.Replacing.tried c.args.replacer.now in
    let m = g.R.Replacing.tried c.replace.new.self in
    broke c.from_residual-in_err-tell_loss-in-Ok.result _
    (λ out. at_try out (g.T.Listener.heard c.args.listener.now) (g.T.Listener.heard c.tell_loss.new.listener) k m c.args.breaks_links c.args.new c.replace.result
    (tried k m c.args.breaks_links c.args.new c.replace.result c.as_str.result.now c.deref.result.now c.as_str.ensures.value c.deref.ensures.value c.replace.ensures) c.in_err-tell_loss-in-Ok.ensures.memory)

pub returns-clause-begun : goal.returns-clause-begun
returns-clause-begun g c =
    let k = g.R.Replacing.tried c.args.replacer.now in
    let m = g.R.Replacing.tried c.replace.new.self in
    at_hindrance (g.T.Listener.heard c.args.listener.now) (g.T.Listener.heard c.tell_hindrance.new.listener) k m c.args.breaks_links c.args.new c.replace.result c.tell_hindrance.result
    (tried k m c.args.breaks_links c.args.new c.replace.result c.as_str.result.now c.deref.result.now c.as_str.ensures.value c.deref.ensures.value c.replace.ensures) c.tell_hindrance.ensures.none
