use Rattle.std.proofs.Common.{ℕ, ◌<◌, subst}
use Rattle.check_files.proofs.Doing.{known}
use Rattle.list_program.specs.Named.{inside_of}
use Rattle.meaning_program.specs.Files.{IsNoRun}
use Rattle.spdx_troubles.specs.Causes.{meaning_trouble}
use Rattle.spdx_commands.specs.Said.{AreSaid}
use Rattle.spdx_commands.specs.Simplify.{IsSimplify, SaysMeant}
use Rattle.spdx_commands.proofs.Steps.{meant, meant_as}
use Rattle.spdx_commands.proofs.Stops.{refused, said_off, stopped}
use Rattle.spdx_commands.proofs.simplification.simplify.Goals as goal

pub returns-in_err-run-clause-err : goal.returns-in_err-run-clause-err
returns-in_err-run-clause-err g c =
    let s = g.S.Shelf.told c.args.shelf.now in
    let inside = inside_of c.args.inside.list.now c.args.inside.extras.now in
    stopped meaning_trouble (IsNoRun s inside c.args.request) (SaysMeant s inside c.args.request) (g.O.Sink.told c.args.output.now) (g.T.Listener.heard c.args.listener.now)
    c.in_err-run.field-0.0 c.in_err-run.ensures.err c.from_residual.result c.from_residual.ensures.1

pub returns-in_err-all-clause-err : goal.returns-in_err-all-clause-err
returns-in_err-all-clause-err g c =
    let s = g.S.Shelf.told c.args.shelf.now in
    let inside = inside_of c.args.inside.list.now c.args.inside.extras.now in
    refused meaning_trouble (IsNoRun s inside c.args.request) (SaysMeant s inside c.args.request) (g.O.Sink.told c.args.output.now) (g.T.Listener.heard c.args.listener.now)
    c.from_residual-in_err-all.result c.from_residual-in_err-all.ensures.1

pub returns-in_err-say_each-clause-err : goal.returns-in_err-say_each-clause-err
returns-in_err-say_each-clause-err g c =
    let s = g.S.Shelf.told c.args.shelf.now in
    let inside = inside_of c.args.inside.list.now c.args.inside.extras.now in
    said_off meaning_trouble (IsNoRun s inside c.args.request) (SaysMeant s inside c.args.request) (g.O.Sink.told c.args.output.now) (g.T.Listener.heard c.args.listener.now)
    (g.O.Sink.told c.say_each.new.output) (g.T.Listener.heard c.say_each.new.listener) _ _
    (c.status-status.result, meant s inside c.args.request c.in_ok-run.run' c.in_ok-all.all.items c.status-status.result c.in_ok-run.ensures.ok c.in_ok-all.ensures c.status-status.ensures)
    c.in_err-say_each.field-0.0 c.in_err-say_each.ensures.err c.from_residual-in_err-say_each.result c.from_residual-in_err-say_each.ensures.1

pub returns-clause-ok : goal.returns-clause-ok
returns-clause-ok g c =
    let s = g.S.Shelf.told c.args.shelf.now in
    let inside = inside_of c.args.inside.list.now c.args.inside.extras.now in
    known (g.O.Sink.told c.args.output.now) (g.O.Sink.told c.say_each.new.output) (g.T.Listener.heard c.args.listener.now) (g.T.Listener.heard c.say_each.new.listener) (AreSaid c.in_ok-all.all.items)
    (λ text told. IsSimplify s inside c.args.request text told c.status-status.result) c.in_ok-say_each.ensures.ok
    (λ text told is. meant_as s inside c.args.request c.in_ok-run.run' c.in_ok-all.all.items c.status-status.result text told c.in_ok-run.ensures.ok c.in_ok-all.ensures c.status-status.ensures is)

pub returns-clause-passes : goal.returns-clause-passes
returns-clause-passes g c = λ lt. c.in_ok-run.ensures.passes (subst (λ (n : ℕ). n < 1) c.status-status.ensures lt)
