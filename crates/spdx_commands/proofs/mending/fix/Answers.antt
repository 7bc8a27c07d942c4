use Rattle.list_program.specs.Named.{inside_of}
use Rattle.std.proofs.Common.{◌∙◌, ap}
use Rattle.std.specs.Prelude.{max}
use Rattle.spdx_commands.specs.Mend.{stand}
use Rattle.spdx_commands.proofs.Breaking.{run_alone, run_begun, run_beside, silent}
use Rattle.spdx_commands.proofs.Fixes.{fix_done, low_run, memory_broken, not_begun, part_broken, quiet}
use Rattle.spdx_commands.proofs.Needs.{done_tries, kept, needed, stopped_tries}
use Rattle.spdx_commands.proofs.mending.fix.Goals as goal

pub returns-in_err-run-clause-err : goal.returns-in_err-run-clause-err
returns-in_err-run-clause-err g c =
    not_begun (g.S.Shelf.told c.args.shelf.now) (inside_of c.args.inside.list.now c.args.inside.extras.now) c.args.request
    (stand (g.O.Sink.told c.args.output.now) (g.T.Listener.heard c.args.listener.now) (g.R.Replacing.tried c.args.replacer.now)) (g.T.Listener.heard c.fix.new.progress)
    c.in_err-run.field-0.0 (silent g.T.Progress.Shows g.T.Listener.heard g.met.T.Follower.steady c.fix.ensures.shows) c.in_err-run.ensures.err c.from_residual.result c.from_residual.ensures.1

pub returns-in_err-told-clause-err : goal.returns-in_err-told-clause-err
returns-in_err-told-clause-err g c =
    let s = g.S.Shelf.told c.args.shelf.now in
    let inside = inside_of c.args.inside.list.now c.args.inside.extras.now in
    let x = stand (g.O.Sink.told c.args.output.now) (g.T.Listener.heard c.args.listener.now) (g.R.Replacing.tried c.args.replacer.now) in
    let y = stand (g.O.Sink.told c.do_paths.new.output) (g.T.Listener.heard c.do_paths.new.listener) (g.R.Replacing.tried c.do_paths.new.replacer) in
    let same = silent g.T.Progress.Shows g.T.Listener.heard g.met.T.Follower.steady c.fix.ensures.shows in
    part_broken s inside c.args.request x y c.in_err-told.field-0.0 c.in_err-told.ensures.err
    (run_begun s inside c.args.request x c.in_ok-run.run' c.in_ok-run.ensures.ok (g.T.Listener.heard c.fix.new.progress) y same c.in_err-told.ensures.begun)
    c.from_residual-in_err-told.result c.from_residual-in_err-told.ensures.1

pub returns-in_err-beside-clause-err : goal.returns-in_err-beside-clause-err
returns-in_err-beside-clause-err g c =
    let s = g.S.Shelf.told c.args.shelf.now in
    let inside = inside_of c.args.inside.list.now c.args.inside.extras.now in
    let x = stand (g.O.Sink.told c.args.output.now) (g.T.Listener.heard c.args.listener.now) (g.R.Replacing.tried c.args.replacer.now) in
    let y = stand (g.O.Sink.told c.do_paths.new.output) (g.T.Listener.heard c.do_paths.new.listener) (g.R.Replacing.tried c.do_paths.new.replacer) in
    let same = silent g.T.Progress.Shows g.T.Listener.heard g.met.T.Follower.steady c.fix.ensures.shows in
    memory_broken s inside c.args.request x y
    (run_alone s inside c.args.request x c.in_ok-run.run' c.in_ok-run.ensures.ok (g.T.Listener.heard c.fix.new.progress) y c.in_ok-told.told same c.in_ok-told.ensures.ok)
    c.from_residual-in_err-beside.result c.from_residual-in_err-beside.ensures.1

pub returns-in_err-tell_each-clause-err : goal.returns-in_err-tell_each-clause-err
returns-in_err-tell_each-clause-err g c =
    let s = g.S.Shelf.told c.args.shelf.now in
    let inside = inside_of c.args.inside.list.now c.args.inside.extras.now in
    let x = stand (g.O.Sink.told c.args.output.now) (g.T.Listener.heard c.args.listener.now) (g.R.Replacing.tried c.args.replacer.now) in
    let y = stand (g.O.Sink.told c.do_paths.new.output) (g.T.Listener.heard c.do_paths.new.listener) (g.R.Replacing.tried c.do_paths.new.replacer) in
    let l = g.T.Listener.heard c.tell_each.new.listener in
    let same = silent g.T.Progress.Shows g.T.Listener.heard g.met.T.Follower.steady c.fix.ensures.shows in
    memory_broken s inside c.args.request x (stand y.output l y.tried)
    (run_beside s inside c.args.request x c.in_ok-run.run' c.in_ok-run.ensures.ok (g.T.Listener.heard c.fix.new.progress) y c.in_ok-told.told same c.in_ok-told.ensures.ok l c.in_ok-beside.beside.items
    c.in_ok-beside.ensures c.in_err-tell_each.ensures.begun)
    c.from_residual-in_err-tell_each.result c.from_residual-in_err-tell_each.ensures.1

pub returns-clause-ok : goal.returns-clause-ok
returns-clause-ok g c =
    fix_done (g.S.Shelf.told c.args.shelf.now) (inside_of c.args.inside.list.now c.args.inside.extras.now) c.args.request
    (stand (g.O.Sink.told c.args.output.now) (g.T.Listener.heard c.args.listener.now) (g.R.Replacing.tried c.args.replacer.now))
    (g.O.Sink.told c.do_paths.new.output) (g.T.Listener.heard c.fix.new.progress) (g.T.Listener.heard c.do_paths.new.listener) (g.T.Listener.heard c.tell_each.new.listener)
    (g.R.Replacing.tried c.do_paths.new.replacer) c.in_ok-run.run' c.in_ok-told.told c.greater.result c.in_ok-beside.beside.items
    (silent g.T.Progress.Shows g.T.Listener.heard g.met.T.Follower.steady c.fix.ensures.shows) c.in_ok-run.ensures.ok c.in_ok-told.ensures.ok c.in_ok-beside.ensures c.in_ok-tell_each.ensures.all
    (c.greater.ensures ∙ ap (λ n. max n c.in_ok-told.told) c.status-planned.ensures)

pub returns-clause-passes : goal.returns-clause-passes
returns-clause-passes g c low = c.in_ok-run.ensures.passes (low_run c.status-planned.result c.in_ok-told.told c.greater.result _ c.greater.ensures c.status-planned.ensures low)

pub returns-clause-quiet : goal.returns-clause-quiet
returns-clause-quiet g c =
    quiet (g.S.Shelf.told c.args.shelf.now) (inside_of c.args.inside.list.now c.args.inside.extras.now) c.args.request
    (stand (g.O.Sink.told c.args.output.now) (g.T.Listener.heard c.args.listener.now) (g.R.Replacing.tried c.args.replacer.now))
    (stand (g.O.Sink.told c.do_paths.new.output) (g.T.Listener.heard c.tell_each.new.listener) (g.R.Replacing.tried c.do_paths.new.replacer)) c.greater.result (returns-clause-ok g c)

pub returns-in_err-run-clause-kept : goal.returns-in_err-run-clause-kept
returns-in_err-run-clause-kept g c =
    let s = g.S.Shelf.told c.args.shelf.now in
    let inside = inside_of c.args.inside.list.now c.args.inside.extras.now in
    let x = stand (g.O.Sink.told c.args.output.now) (g.T.Listener.heard c.args.listener.now) (g.R.Replacing.tried c.args.replacer.now) in
    let y = stand x.output (g.T.Listener.heard c.fix.new.progress) x.tried in
    kept s inside c.args.request x.tried y.tried
    (stopped_tries s inside c.args.request x y c.from_residual.result _ c.from_residual.ensures.1 (returns-in_err-run-clause-err g c))

pub returns-in_err-run-clause-mended : goal.returns-in_err-run-clause-mended
returns-in_err-run-clause-mended g c =
    let s = g.S.Shelf.told c.args.shelf.now in
    let inside = inside_of c.args.inside.list.now c.args.inside.extras.now in
    let x = stand (g.O.Sink.told c.args.output.now) (g.T.Listener.heard c.args.listener.now) (g.R.Replacing.tried c.args.replacer.now) in
    let y = stand x.output (g.T.Listener.heard c.fix.new.progress) x.tried in
    needed s inside c.args.request x.tried y.tried
    (stopped_tries s inside c.args.request x y c.from_residual.result _ c.from_residual.ensures.1 (returns-in_err-run-clause-err g c))

pub returns-in_err-told-clause-kept : goal.returns-in_err-told-clause-kept
returns-in_err-told-clause-kept g c =
    let s = g.S.Shelf.told c.args.shelf.now in
    let inside = inside_of c.args.inside.list.now c.args.inside.extras.now in
    let x = stand (g.O.Sink.told c.args.output.now) (g.T.Listener.heard c.args.listener.now) (g.R.Replacing.tried c.args.replacer.now) in
    let y = stand (g.O.Sink.told c.do_paths.new.output) (g.T.Listener.heard c.do_paths.new.listener) (g.R.Replacing.tried c.do_paths.new.replacer) in
    kept s inside c.args.request x.tried y.tried
    (stopped_tries s inside c.args.request x y c.from_residual-in_err-told.result _ c.from_residual-in_err-told.ensures.1 (returns-in_err-told-clause-err g c))

pub returns-in_err-told-clause-mended : goal.returns-in_err-told-clause-mended
returns-in_err-told-clause-mended g c =
    let s = g.S.Shelf.told c.args.shelf.now in
    let inside = inside_of c.args.inside.list.now c.args.inside.extras.now in
    let x = stand (g.O.Sink.told c.args.output.now) (g.T.Listener.heard c.args.listener.now) (g.R.Replacing.tried c.args.replacer.now) in
    let y = stand (g.O.Sink.told c.do_paths.new.output) (g.T.Listener.heard c.do_paths.new.listener) (g.R.Replacing.tried c.do_paths.new.replacer) in
    needed s inside c.args.request x.tried y.tried
    (stopped_tries s inside c.args.request x y c.from_residual-in_err-told.result _ c.from_residual-in_err-told.ensures.1 (returns-in_err-told-clause-err g c))

pub returns-in_err-beside-clause-kept : goal.returns-in_err-beside-clause-kept
returns-in_err-beside-clause-kept g c =
    let s = g.S.Shelf.told c.args.shelf.now in
    let inside = inside_of c.args.inside.list.now c.args.inside.extras.now in
    let x = stand (g.O.Sink.told c.args.output.now) (g.T.Listener.heard c.args.listener.now) (g.R.Replacing.tried c.args.replacer.now) in
    let y = stand (g.O.Sink.told c.do_paths.new.output) (g.T.Listener.heard c.do_paths.new.listener) (g.R.Replacing.tried c.do_paths.new.replacer) in
    kept s inside c.args.request x.tried y.tried
    (stopped_tries s inside c.args.request x y c.from_residual-in_err-beside.result _ c.from_residual-in_err-beside.ensures.1 (returns-in_err-beside-clause-err g c))

pub returns-in_err-beside-clause-mended : goal.returns-in_err-beside-clause-mended
returns-in_err-beside-clause-mended g c =
    let s = g.S.Shelf.told c.args.shelf.now in
    let inside = inside_of c.args.inside.list.now c.args.inside.extras.now in
    let x = stand (g.O.Sink.told c.args.output.now) (g.T.Listener.heard c.args.listener.now) (g.R.Replacing.tried c.args.replacer.now) in
    let y = stand (g.O.Sink.told c.do_paths.new.output) (g.T.Listener.heard c.do_paths.new.listener) (g.R.Replacing.tried c.do_paths.new.replacer) in
    needed s inside c.args.request x.tried y.tried
    (stopped_tries s inside c.args.request x y c.from_residual-in_err-beside.result _ c.from_residual-in_err-beside.ensures.1 (returns-in_err-beside-clause-err g c))

pub returns-in_err-tell_each-clause-kept : goal.returns-in_err-tell_each-clause-kept
returns-in_err-tell_each-clause-kept g c =
    let s = g.S.Shelf.told c.args.shelf.now in
    let inside = inside_of c.args.inside.list.now c.args.inside.extras.now in
    let x = stand (g.O.Sink.told c.args.output.now) (g.T.Listener.heard c.args.listener.now) (g.R.Replacing.tried c.args.replacer.now) in
    let y = stand (g.O.Sink.told c.do_paths.new.output) (g.T.Listener.heard c.tell_each.new.listener) (g.R.Replacing.tried c.do_paths.new.replacer) in
    kept s inside c.args.request x.tried y.tried
    (stopped_tries s inside c.args.request x y c.from_residual-in_err-tell_each.result _ c.from_residual-in_err-tell_each.ensures.1 (returns-in_err-tell_each-clause-err g c))

pub returns-in_err-tell_each-clause-mended : goal.returns-in_err-tell_each-clause-mended
returns-in_err-tell_each-clause-mended g c =
    let s = g.S.Shelf.told c.args.shelf.now in
    let inside = inside_of c.args.inside.list.now c.args.inside.extras.now in
    let x = stand (g.O.Sink.told c.args.output.now) (g.T.Listener.heard c.args.listener.now) (g.R.Replacing.tried c.args.replacer.now) in
    let y = stand (g.O.Sink.told c.do_paths.new.output) (g.T.Listener.heard c.tell_each.new.listener) (g.R.Replacing.tried c.do_paths.new.replacer) in
    needed s inside c.args.request x.tried y.tried
    (stopped_tries s inside c.args.request x y c.from_residual-in_err-tell_each.result _ c.from_residual-in_err-tell_each.ensures.1 (returns-in_err-tell_each-clause-err g c))

pub returns-clause-kept : goal.returns-clause-kept
returns-clause-kept g c =
    let s = g.S.Shelf.told c.args.shelf.now in
    let inside = inside_of c.args.inside.list.now c.args.inside.extras.now in
    let x = stand (g.O.Sink.told c.args.output.now) (g.T.Listener.heard c.args.listener.now) (g.R.Replacing.tried c.args.replacer.now) in
    let y = stand (g.O.Sink.told c.do_paths.new.output) (g.T.Listener.heard c.tell_each.new.listener) (g.R.Replacing.tried c.do_paths.new.replacer) in
    kept s inside c.args.request x.tried y.tried (done_tries s inside c.args.request x y c.greater.result (returns-clause-ok g c))

pub returns-clause-mended : goal.returns-clause-mended
returns-clause-mended g c =
    let s = g.S.Shelf.told c.args.shelf.now in
    let inside = inside_of c.args.inside.list.now c.args.inside.extras.now in
    let x = stand (g.O.Sink.told c.args.output.now) (g.T.Listener.heard c.args.listener.now) (g.R.Replacing.tried c.args.replacer.now) in
    let y = stand (g.O.Sink.told c.do_paths.new.output) (g.T.Listener.heard c.tell_each.new.listener) (g.R.Replacing.tried c.do_paths.new.replacer) in
    needed s inside c.args.request x.tried y.tried (done_tries s inside c.args.request x y c.greater.result (returns-clause-ok g c))
