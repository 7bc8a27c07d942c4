use Rattle.std.proofs.Common.{◌∙◌}
use Rattle.check_files.proofs.Doing.{known}
use Rattle.list_program.specs.Named.{inside_of}
use Rattle.list_told.specs.Shown.{IsNotShown}
use Rattle.spdx_troubles.specs.Causes.{list_trouble}
use Rattle.spdx_commands.specs.Lists.{IsShow, SaysShown}
use Rattle.spdx_commands.specs.Said.{IsSaid, text_of, told_of}
use Rattle.spdx_commands.proofs.Steps.{says_listed}
use Rattle.spdx_commands.proofs.Stops.{refused, said_off, stopped}
use Rattle.spdx_commands.proofs.lists.show.Goals as goal

pub returns-in_err-shown-clause-err : goal.returns-in_err-shown-clause-err
returns-in_err-shown-clause-err g c =
    let s = g.S.Shelf.told c.args.shelf.now in
    let inside = inside_of c.args.inside.list.now c.args.inside.extras.now in
    stopped list_trouble (IsNotShown s inside c.args.replacements.now c.args.asked) (SaysShown s inside c.args.replacements.now c.args.asked) (g.O.Sink.told c.args.output.now)
    (g.T.Listener.heard c.args.listener.now) c.in_err-shown.field-0.0 c.in_err-shown.ensures.err c.from_residual.result c.from_residual.ensures.1

pub returns-in_err-said-clause-err : goal.returns-in_err-said-clause-err
returns-in_err-said-clause-err g c =
    let s = g.S.Shelf.told c.args.shelf.now in
    let inside = inside_of c.args.inside.list.now c.args.inside.extras.now in
    refused list_trouble (IsNotShown s inside c.args.replacements.now c.args.asked) (SaysShown s inside c.args.replacements.now c.args.asked) (g.O.Sink.told c.args.output.now)
    (g.T.Listener.heard c.args.listener.now) c.from_residual-in_err-said.result c.from_residual-in_err-said.ensures.1

pub returns-in_err-say-clause-err : goal.returns-in_err-say-clause-err
returns-in_err-say-clause-err g c =
    let s = g.S.Shelf.told c.args.shelf.now in
    let inside = inside_of c.args.inside.list.now c.args.inside.extras.now in
    said_off list_trouble (IsNotShown s inside c.args.replacements.now c.args.asked) (SaysShown s inside c.args.replacements.now c.args.asked) (g.O.Sink.told c.args.output.now)
    (g.T.Listener.heard c.args.listener.now) (g.O.Sink.told c.say.new.output) (g.T.Listener.heard c.say.new.listener) (text_of c.in_ok-said.said) (told_of c.in_ok-said.said) (
      c.status-status.result,
      record {
        shown = c.in_ok-shown.shown;
        is_shown = c.in_ok-shown.ensures.ok;
        text_is = c.in_ok-said.ensures.text_is;
        told_are = c.in_ok-said.ensures.told_are;
        status_is = c.status-status.ensures;
      },
    )
    c.in_err-say.field-0.0 c.in_err-say.ensures.err c.from_residual-in_err-say.result c.from_residual-in_err-say.ensures.1

pub returns-clause-ok : goal.returns-clause-ok
returns-clause-ok g c =
    let s = g.S.Shelf.told c.args.shelf.now in
    let inside = inside_of c.args.inside.list.now c.args.inside.extras.now in
    known (g.O.Sink.told c.args.output.now) (g.O.Sink.told c.say.new.output) (g.T.Listener.heard c.args.listener.now) (g.T.Listener.heard c.say.new.listener) (IsSaid c.in_ok-said.said)
    (λ text told. IsShow s inside c.args.replacements.now c.args.asked text told c.status-status.result) c.in_ok-say.ensures.ok
    (λ text told is. record {
      shown = c.in_ok-shown.shown;
      is_shown = c.in_ok-shown.ensures.ok;
      text_is = is.0 ∙ c.in_ok-said.ensures.text_is;
      told_are = is.1 ∙ c.in_ok-said.ensures.told_are;
      status_is = c.status-status.ensures;
    })

pub returns-clause-listed : goal.returns-clause-listed
returns-clause-listed g c =
    says_listed (g.S.Shelf.told c.args.shelf.now) (inside_of c.args.inside.list.now c.args.inside.extras.now) c.args.asked c.in_ok-shown.shown c.status-status.result c.in_ok-shown.ensures.listed c.status-status.ensures
