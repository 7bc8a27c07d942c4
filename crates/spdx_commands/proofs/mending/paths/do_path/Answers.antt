use Rattle.std.proofs.Common.{◌∙◌, ap}
use Rattle.std.specs.Prelude.{String}
use Rattle.std.specs.Global.{Vec}
use Rattle.std.specs.declared.alloc.Global.{Global}
use Rattle.spdx_commands.specs.Mend.{stand}
use Rattle.spdx_commands.specs.Steps.{setting_of}
use Rattle.spdx_commands.proofs.Breaking.{broke, in_path, in_what_was_left}
use Rattle.spdx_commands.proofs.Doings.{memory_at, path_done, same_off}
use Rattle.spdx_commands.proofs.mending.paths.do_path.Goals as goal

pub returns-in_err-status-clause-err : goal.returns-in_err-status-clause-err
returns-in_err-status-clause-err g c =
    same_off (g.O.Sink.told c.do_ends.new.output) (g.R.Replacing.tried c.args.replacer.now) (g.R.Replacing.tried c.do_ends.new.replacer) c.in_err-status.field-0.0 c.in_err-status.ensures.err
    c.from_residual.result c.from_residual.ensures.1

pub returns-in_err-tell_left-clause-err : goal.returns-in_err-tell_left-clause-err
returns-in_err-tell_left-clause-err g c =
    memory_at (g.O.Sink.told c.do_ends.new.output) (g.R.Replacing.tried c.args.replacer.now) (g.R.Replacing.tried c.do_ends.new.replacer)
    c.from_residual-in_err-tell_left.result c.from_residual-in_err-tell_left.ensures.1

pub returns-clause-ok : goal.returns-clause-ok
returns-clause-ok g c =
    path_done (setting_of g.S.Shelf.told c.args.means.now)
    (stand (g.O.Sink.told c.args.output.now) (g.T.Listener.heard c.args.listener.now) (g.R.Replacing.tried c.args.replacer.now))
    (stand (g.O.Sink.told c.do_ends.new.output) (g.T.Listener.heard c.do_ends.new.listener) (g.R.Replacing.tried c.do_ends.new.replacer))
    (g.T.Listener.heard c.tell_left.new.listener) c.args.so_far.now c.do_ends.new.so_far.replaced c.args.path c.in_ok-status.status c.replace-left.result.items
    c.in_ok-status.ensures.ok c.in_ok-tell_left.ensures.all (ap (λ (v : Vec (String Global)). v.items) c.replace-left.ensures.value ∙ c.in_ok-status.ensures.left)

pub returns-in_err-status-clause-begun : goal.returns-in_err-status-clause-begun
returns-in_err-status-clause-begun g c =
    let x = stand (g.O.Sink.told c.args.output.now) (g.T.Listener.heard c.args.listener.now) (g.R.Replacing.tried c.args.replacer.now) in
    let y = stand (g.O.Sink.told c.do_ends.new.output) (g.T.Listener.heard c.do_ends.new.listener) (g.R.Replacing.tried c.do_ends.new.replacer) in
    broke c.from_residual.result _ (in_path (setting_of g.S.Shelf.told c.args.means.now) x y c.args.so_far.now c.args.path c.in_err-status.ensures.begun)

pub returns-in_err-tell_left-clause-begun : goal.returns-in_err-tell_left-clause-begun
returns-in_err-tell_left-clause-begun g c =
    let x = stand (g.O.Sink.told c.args.output.now) (g.T.Listener.heard c.args.listener.now) (g.R.Replacing.tried c.args.replacer.now) in
    let y = stand (g.O.Sink.told c.do_ends.new.output) (g.T.Listener.heard c.do_ends.new.listener) (g.R.Replacing.tried c.do_ends.new.replacer) in
    broke c.from_residual-in_err-tell_left.result _
    (in_what_was_left (setting_of g.S.Shelf.told c.args.means.now) x y (g.T.Listener.heard c.tell_left.new.listener) c.args.so_far.now c.do_ends.new.so_far.replaced c.args.path
    c.in_ok-status.status c.replace-left.result.items c.in_ok-status.ensures.ok c.in_err-tell_left.ensures.begun
    (ap (λ (v : Vec (String Global)). v.items) c.replace-left.ensures.value ∙ c.in_ok-status.ensures.left))
