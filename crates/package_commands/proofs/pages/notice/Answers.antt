use Rattle.std.proofs.Common.{ℕ, ◌<◌, ◌∙◌, List, subst, sym}
use Rattle.check_files.proofs.Doing.{known}
use Rattle.notice_program.specs.Run.{IsNoRun}
use Rattle.list_program.specs.Named.{inside_of}
use Rattle.spdx_commands.specs.Said.{IsSaid, text_of, told_of}
use Rattle.spdx_commands.proofs.Stops.{refused, said_off, stopped}
use Rattle.spdx_troubles.specs.Causes.{notice_trouble}
use Rattle.spdx_troubles.specs.declared.trouble.Trouble.{Trouble}
use Rattle.package_commands.specs.Notice.{IsNotice, IsPage, SaysNotice}
use Rattle.package_commands.proofs.Noticing.{none_written, page_written}
use Rattle.package_commands.proofs.Gates.{notice_as, said_as, says_notice}
use Rattle.package_commands.proofs.pages.notice.Goals as goal

pub returns-in_err-outcome-clause-err : goal.returns-in_err-outcome-clause-err
returns-in_err-outcome-clause-err g c =
    let s = g.S.Shelf.told c.args.shelf.now in
    let inside = inside_of c.args.inside.list.now c.args.inside.extras.now in
    stopped notice_trouble (IsNoRun s inside c.args.request) (SaysNotice s inside c.args.replacements.now c.args.request) (g.O.Sink.told c.args.output.now)
    (g.T.Listener.heard c.args.listener.now) c.in_err-outcome.field-0.0 c.in_err-outcome.ensures.err c.from_residual.result c.from_residual.ensures.1

pub returns-in_err-both-clause-err : goal.returns-in_err-both-clause-err
returns-in_err-both-clause-err g c =
    let s = g.S.Shelf.told c.args.shelf.now in
    let inside = inside_of c.args.inside.list.now c.args.inside.extras.now in
    refused notice_trouble (IsNoRun s inside c.args.request) (SaysNotice s inside c.args.replacements.now c.args.request) (g.O.Sink.told c.args.output.now)
    (g.T.Listener.heard c.args.listener.now) c.from_residual-in_err-both.result c.from_residual-in_err-both.ensures.1

pub returns-in_err-say-clause-err : goal.returns-in_err-say-clause-err
returns-in_err-say-clause-err g c =
    let s = g.S.Shelf.told c.args.shelf.now in
    let inside = inside_of c.args.inside.list.now c.args.inside.extras.now in
    said_off notice_trouble (IsNoRun s inside c.args.request) (SaysNotice s inside c.args.replacements.now c.args.request) (g.O.Sink.told c.args.output.now)
    (g.T.Listener.heard c.args.listener.now) (g.O.Sink.told c.say.new.output) (g.T.Listener.heard c.say.new.listener) (text_of c.in_ok-both.both.0) (told_of c.in_ok-both.both.0)
    (says_notice s inside c.args.replacements.now c.args.request c.in_ok-outcome.outcome c.in_ok-both.both.0 (record { status = c.status-status.result; totals = c.in_ok-both.both.1 }) c.in_ok-outcome.ensures.ok c.in_ok-both.ensures c.status-status.ensures)
    c.in_err-say.field-0.0 c.in_err-say.ensures.err c.from_residual-in_err-say.result c.from_residual-in_err-say.ensures.1

pub returns-clause-ok : goal.returns-clause-ok
returns-clause-ok g c =
    let s = g.S.Shelf.told c.args.shelf.now in
    let inside = inside_of c.args.inside.list.now c.args.inside.extras.now in
    known (g.O.Sink.told c.args.output.now) (g.O.Sink.told c.say.new.output) (g.T.Listener.heard c.args.listener.now) (g.T.Listener.heard c.say.new.listener) (IsSaid c.in_ok-both.both.0)
    (λ text told. IsNotice s inside c.args.replacements.now c.args.request text told (record { status = c.status-status.result; totals = c.in_ok-both.both.1 })) c.in_ok-say.ensures.ok
    (notice_as s inside c.args.replacements.now c.args.request c.in_ok-outcome.outcome c.in_ok-both.both.0 (record { status = c.status-status.result; totals = c.in_ok-both.both.1 }) c.in_ok-outcome.ensures.ok c.in_ok-both.ensures c.status-status.ensures)

pub returns-clause-passes : goal.returns-clause-passes
returns-clause-passes g c = λ lt.
    let s = g.S.Shelf.told c.args.shelf.now in
    let inside = inside_of c.args.inside.list.now c.args.inside.extras.now in
    let zero = subst (λ (n : ℕ). n < 1) c.status-status.ensures lt in
    let t = c.in_ok-both.ensures in
    let page = page_written s inside c.args.replacements.now c.args.request c.in_ok-outcome.outcome (text_of c.in_ok-both.both.0) t.read t.ended c.in_ok-both.both.1 c.in_ok-outcome.ensures.ok
    t.read_are t.ends zero (c.in_ok-outcome.ensures.passes zero) c.in_ok-outcome.ensures.written in
    known (g.O.Sink.told c.args.output.now) (g.O.Sink.told c.say.new.output) (g.T.Listener.heard c.args.listener.now) (g.T.Listener.heard c.say.new.listener) (IsSaid c.in_ok-both.both.0)
    (IsPage s inside c.args.replacements.now c.args.request) c.in_ok-say.ensures.ok
    (said_as c.in_ok-both.both.0 (IsPage s inside c.args.replacements.now c.args.request)
    (subst (λ (ts : List Trouble). IsPage s inside c.args.replacements.now c.args.request (text_of c.in_ok-both.both.0) ts) (sym t.told_are) page))

pub returns-clause-held : goal.returns-clause-held
returns-clause-held g c = λ lt.
    let put = c.in_ok-say.ensures.ok in
    let t = c.in_ok-both.ensures in (
      put.text,
      put.writes,
      put.is.0 ∙ none_written c.in_ok-outcome.outcome c.in_ok-both.both.1 (text_of c.in_ok-both.both.0) t.ended t.ends c.in_ok-outcome.ensures.written
          (subst (λ (n : ℕ). 0 < n) c.status-status.ensures lt),
    )
