use Rattle.std.proofs.Common.{◌≡◌, ◌∙◌, List, rules, subst, sym}
use Rattle.std.proofs.lemmas.Iterator.Adapters.{YieldsList-from_vec}
use Rattle.std.proofs.lemmas.Iterator.Consumers.{YieldsList-end, YieldsList-so_far, YieldsList-turn}
use Rattle.std.proofs.lemmas.List.{map-id}
use Rattle.fix_program.specs.declared.run.PathEnd.{PathEnd}
use Rattle.spdx_commands.specs.Mend.{ArePathsDone, Did, stand}
use Rattle.spdx_commands.specs.Steps.{IsWorst, setting_of}
use Rattle.spdx_commands.proofs.Breaking.{broke, paths_broken}
use Rattle.spdx_commands.proofs.Saying.{at_one}
use Rattle.spdx_commands.proofs.Doings.{part_off, path_more, paths_begun, paths_done}
use Rattle.spdx_commands.proofs.mending.paths.do_paths.Goals as goal

pub loop-path-init : goal.loop-path-init
loop-path-init g c = (
  paths_begun (setting_of g.S.Shelf.told c.args.means.now)
      (stand (g.O.Sink.told c.args.output.now) (g.T.Listener.heard c.args.listener.now) (g.R.Replacing.tried c.args.replacer.now)) c.new-so_far.result.replaced c.new-so_far.ensures.replaced,
  c.new-so_far.ensures.none_left,
)

pub loop-path-preserved : goal.loop-path-preserved
loop-path-preserved g c = (
  path_more (setting_of g.S.Shelf.told c.args.means.now)
      (stand (g.O.Sink.told c.args.output.now) (g.T.Listener.heard c.args.listener.now) (g.R.Replacing.tried c.args.replacer.now))
      (stand (g.O.Sink.told c.loop-path.output) (g.T.Listener.heard c.loop-path.listener) (g.R.Replacing.tried c.loop-path.replacer))
      (stand (g.O.Sink.told c.do_path.new.output) (g.T.Listener.heard c.do_path.new.listener) (g.R.Replacing.tried c.do_path.new.replacer))
      c.loop-path.so_far c.do_path.new.so_far c.loop-path.yielded c.in-Some.path c.loop-path.worst c.in_ok-status.status c.greater-worst.result
      c.loop-path.invariant.0 c.loop-path.invariant.1 c.in_ok-status.ensures.ok c.greater-worst.ensures,
  c.in_ok-status.ensures.left,
)

pub returns-in_err-status-clause-err : goal.returns-in_err-status-clause-err
returns-in_err-status-clause-err g c =
    part_off (g.O.Sink.told c.do_path.new.output) (g.R.Replacing.tried c.args.replacer.now) (g.R.Replacing.tried c.loop-path.replacer) (g.R.Replacing.tried c.do_path.new.replacer)
    c.loop-path.invariant.0.done.tried c.in_err-status.field-0.0 c.loop-path.invariant.0.tries c.in_err-status.ensures.err c.from_residual.result c.from_residual.ensures.1

pub returns-clause-ok : goal.returns-clause-ok
returns-clause-ok g c =
    let t = YieldsList-end (YieldsList-from_vec {s = c.into_iter-path-iterator.result} c.args.paths.items (search rules) (search rules)) c.loop-path.yielded c.loop-path.path-iterator c.loop-path.yielded_by c.next.result
    c.next.new.self c.in-None.is c.next.ensures.steps in
    let all : c.loop-path.yielded ≡ c.args.paths.items = sym (map-id c.loop-path.yielded) ∙ t.0 in
    let x = stand (g.O.Sink.told c.args.output.now) (g.T.Listener.heard c.args.listener.now) (g.R.Replacing.tried c.args.replacer.now) in
    let y = stand (g.O.Sink.told c.loop-path.output) (g.T.Listener.heard c.loop-path.listener) (g.R.Replacing.tried c.loop-path.replacer) in
    subst (λ (ps : List PathEnd). Did x y (IsWorst c.loop-path.worst (ArePathsDone (setting_of g.S.Shelf.told c.args.means.now) ps))) all
    (paths_done (setting_of g.S.Shelf.told c.args.means.now) x y c.loop-path.so_far.replaced c.loop-path.worst c.loop-path.yielded c.loop-path.invariant.0)

pub returns-in_err-status-clause-begun : goal.returns-in_err-status-clause-begun
returns-in_err-status-clause-begun g c =
    let list = YieldsList-from_vec {s = c.into_iter-path-iterator.result} c.args.paths.items (search rules) (search rules) in
    let front = YieldsList-so_far list c.loop-path.yielded c.loop-path.path-iterator c.loop-path.yielded_by in
    let turn = YieldsList-turn list c.loop-path.yielded c.loop-path.path-iterator c.loop-path.yielded_by c.next.result c.next.new.self c.in-Some.path c.in-Some.is c.next.ensures.steps in
    let x = stand (g.O.Sink.told c.args.output.now) (g.T.Listener.heard c.args.listener.now) (g.R.Replacing.tried c.args.replacer.now) in
    let y = stand (g.O.Sink.told c.loop-path.output) (g.T.Listener.heard c.loop-path.listener) (g.R.Replacing.tried c.loop-path.replacer) in
    let z = stand (g.O.Sink.told c.do_path.new.output) (g.T.Listener.heard c.do_path.new.listener) (g.R.Replacing.tried c.do_path.new.replacer) in
    broke c.from_residual.result _
    (paths_broken (setting_of g.S.Shelf.told c.args.means.now) x y z c.loop-path.so_far c.loop-path.worst c.args.paths.items c.loop-path.yielded _ c.in-Some.path
    c.loop-path.invariant.0 c.loop-path.invariant.1 c.in_err-status.ensures.begun (at_one c.args.paths.items c.loop-path.yielded c.in-Some.path front turn.0 turn.1))
