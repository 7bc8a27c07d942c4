use Rattle.std.proofs.Common.{◌≡◌, ◌∙◌, List, append-nil, rules, subst, sym}
use Rattle.std.proofs.lemmas.Iterator.Adapters.{YieldsList-from_vec}
use Rattle.std.proofs.lemmas.Iterator.Consumers.{YieldsList-end, YieldsList-so_far, YieldsList-turn}
use Rattle.std.proofs.lemmas.List.{map-id}
use Rattle.fix_program.specs.declared.ends.FileEnd.{FileEnd}
use Rattle.spdx_commands.specs.Mend.{AreEndsDone, Did, stand}
use Rattle.spdx_commands.specs.Steps.{Comes, setting_of}
use Rattle.spdx_commands.proofs.Breaking.{broke, ends_broken}
use Rattle.spdx_commands.proofs.Saying.{at_one}
use Rattle.spdx_commands.proofs.Doings.{end_more, left_more, none_done, part_off}
use Rattle.spdx_commands.proofs.mending.paths.do_ends.Goals as goal

pub loop-end-init : goal.loop-end-init
loop-end-init g c = (
  none_done (setting_of g.S.Shelf.told c.args.means.now)
      (stand (g.O.Sink.told c.args.output.now) (g.T.Listener.heard c.args.listener.now) (g.R.Replacing.tried c.args.replacer.now)) c.args.so_far.now.replaced,
  sym (append-nil c.args.so_far.now.left.items),
)

pub loop-end-preserved : goal.loop-end-preserved
loop-end-preserved g c = (
  end_more (setting_of g.S.Shelf.told c.args.means.now)
      (stand (g.O.Sink.told c.args.output.now) (g.T.Listener.heard c.args.listener.now) (g.R.Replacing.tried c.args.replacer.now))
      (stand (g.O.Sink.told c.loop-end.output) (g.T.Listener.heard c.loop-end.listener) (g.R.Replacing.tried c.loop-end.replacer))
      (stand (g.O.Sink.told c.do_end.new.output) (g.T.Listener.heard c.do_end.new.listener) (g.R.Replacing.tried c.do_end.new.replacer))
      c.args.so_far.now.replaced c.loop-end.so_far.replaced c.do_end.new.so_far.replaced c.loop-end.yielded c.in-Some.end c.loop-end.worst c.in_ok-status.status c.greater-worst.result
      c.loop-end.invariant.0 c.in_ok-status.ensures.ok c.greater-worst.ensures,
  left_more c.args.so_far.now.left.items c.loop-end.so_far.left.items c.do_end.new.so_far.left.items c.loop-end.yielded c.in-Some.end c.loop-end.invariant.1 c.in_ok-status.ensures.left,
)

pub returns-in_err-status-clause-err : goal.returns-in_err-status-clause-err
returns-in_err-status-clause-err g c =
    part_off (g.O.Sink.told c.do_end.new.output) (g.R.Replacing.tried c.args.replacer.now) (g.R.Replacing.tried c.loop-end.replacer) (g.R.Replacing.tried c.do_end.new.replacer)
    c.loop-end.invariant.0.done.tried c.in_err-status.field-0.0 c.loop-end.invariant.0.tries c.in_err-status.ensures.err c.from_residual.result c.from_residual.ensures.1

pub returns-clause-ok : goal.returns-clause-ok
returns-clause-ok g c =
    let t = YieldsList-end (YieldsList-from_vec {s = c.into_iter-end-iterator.result} c.args.ends.items (search rules) (search rules)) c.loop-end.yielded c.loop-end.end-iterator c.loop-end.yielded_by c.next.result c.next.new.self
    c.in-None.is c.next.ensures.steps in
    let all : c.loop-end.yielded ≡ c.args.ends.items = sym (map-id c.loop-end.yielded) ∙ t.0 in
    subst
    (λ (es : List FileEnd).
    Did (stand (g.O.Sink.told c.args.output.now) (g.T.Listener.heard c.args.listener.now) (g.R.Replacing.tried c.args.replacer.now))
    (stand (g.O.Sink.told c.loop-end.output) (g.T.Listener.heard c.loop-end.listener) (g.R.Replacing.tried c.loop-end.replacer))
    (Comes c.args.so_far.now.replaced c.loop-end.so_far.replaced c.loop-end.worst (λ before. AreEndsDone (setting_of g.S.Shelf.told c.args.means.now) before es)))
    all c.loop-end.invariant.0

pub returns-in_err-status-clause-begun : goal.returns-in_err-status-clause-begun
returns-in_err-status-clause-begun g c =
    let list = YieldsList-from_vec {s = c.into_iter-end-iterator.result} c.args.ends.items (search rules) (search rules) in
    let front = YieldsList-so_far list c.loop-end.yielded c.loop-end.end-iterator c.loop-end.yielded_by in
    let turn = YieldsList-turn list c.loop-end.yielded c.loop-end.end-iterator c.loop-end.yielded_by c.next.result c.next.new.self c.in-Some.end c.in-Some.is c.next.ensures.steps in
    let x = stand (g.O.Sink.told c.args.output.now) (g.T.Listener.heard c.args.listener.now) (g.R.Replacing.tried c.args.replacer.now) in
    let y = stand (g.O.Sink.told c.loop-end.output) (g.T.Listener.heard c.loop-end.listener) (g.R.Replacing.tried c.loop-end.replacer) in
    let z = stand (g.O.Sink.told c.do_end.new.output) (g.T.Listener.heard c.do_end.new.listener) (g.R.Replacing.tried c.do_end.new.replacer) in
    broke c.from_residual.result _
    (ends_broken (setting_of g.S.Shelf.told c.args.means.now) x y z c.args.so_far.now.replaced c.loop-end.so_far.replaced c.loop-end.worst c.args.ends.items c.loop-end.yielded _ c.in-Some.end
    c.loop-end.invariant.0 c.in_err-status.ensures.begun (at_one c.args.ends.items c.loop-end.yielded c.in-Some.end front turn.0 turn.1))
