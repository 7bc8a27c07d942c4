use Rattle.std.proofs.Common.{ℕ, ◌<◌, List, subst, sym}
use Rattle.check_files.proofs.Doing.{known}
use Rattle.gate_program.specs.Run.{IsNoRun}
use Rattle.list_program.specs.Named.{inside_of}
use Rattle.spdx_commands.specs.Said.{IsSaid, text_of, told_of}
use Rattle.spdx_commands.proofs.Stops.{refused, said_off, stopped}
use Rattle.spdx_troubles.specs.Causes.{gate_trouble}
use Rattle.spdx_troubles.specs.declared.trouble.Trouble.{Trouble}
use Rattle.package_commands.specs.Gate.{IsGate, SaysGate}
use Rattle.package_commands.proofs.Gates.{gate_as, says_gate}
use Rattle.package_commands.proofs.gated.gate.Goals as goal

pub returns-in_err-outcome-clause-err : goal.returns-in_err-outcome-clause-err
returns-in_err-outcome-clause-err g c =
    let s = g.S.Shelf.told c.args.shelf.now in
    let inside = inside_of c.args.inside.list.now c.args.inside.extras.now in
    stopped gate_trouble (IsNoRun s inside c.args.replacements.now c.args.asked.run) (SaysGate s inside c.args.replacements.now c.args.asked) (g.O.Sink.told c.args.output.now)
    (g.T.Listener.heard c.args.listener.now) c.in_err-outcome.field-0.0 c.in_err-outcome.ensures.err c.from_residual.result c.from_residual.ensures.1

pub returns-in_err-said-clause-err : goal.returns-in_err-said-clause-err
returns-in_err-said-clause-err g c =
    let s = g.S.Shelf.told c.args.shelf.now in
    let inside = inside_of c.args.inside.list.now c.args.inside.extras.now in
    refused gate_trouble (IsNoRun s inside c.args.replacements.now c.args.asked.run) (SaysGate s inside c.args.replacements.now c.args.asked) (g.O.Sink.told c.args.output.now)
    (g.T.Listener.heard c.args.listener.now) c.from_residual-in_err-said.result c.from_residual-in_err-said.ensures.1

pub returns-in_err-say-clause-err : goal.returns-in_err-say-clause-err
returns-in_err-say-clause-err g c =
    let s = g.S.Shelf.told c.args.shelf.now in
    let inside = inside_of c.args.inside.list.now c.args.inside.extras.now in
    said_off gate_trouble (IsNoRun s inside c.args.replacements.now c.args.asked.run) (SaysGate s inside c.args.replacements.now c.args.asked) (g.O.Sink.told c.args.output.now)
    (g.T.Listener.heard c.args.listener.now) (g.O.Sink.told c.say.new.output) (g.T.Listener.heard c.say.new.listener) (text_of c.in_ok-said.said) (told_of c.in_ok-said.said)
    (says_gate s inside c.args.replacements.now c.args.asked c.in_ok-outcome.outcome c.in_ok-said.said c.status-status.result c.in_ok-outcome.ensures.ok c.in_ok-said.ensures c.status-status.ensures)
    c.in_err-say.field-0.0 c.in_err-say.ensures.err c.from_residual-in_err-say.result c.from_residual-in_err-say.ensures.1

pub returns-clause-ok : goal.returns-clause-ok
returns-clause-ok g c =
    let s = g.S.Shelf.told c.args.shelf.now in
    let inside = inside_of c.args.inside.list.now c.args.inside.extras.now in
    known (g.O.Sink.told c.args.output.now) (g.O.Sink.told c.say.new.output) (g.T.Listener.heard c.args.listener.now) (g.T.Listener.heard c.say.new.listener) (IsSaid c.in_ok-said.said)
    (λ text told. IsGate s inside c.args.replacements.now c.args.asked text told c.status-status.result) c.in_ok-say.ensures.ok
    (gate_as s inside c.args.replacements.now c.args.asked c.in_ok-outcome.outcome c.in_ok-said.said c.status-status.result c.in_ok-outcome.ensures.ok c.in_ok-said.ensures c.status-status.ensures)

pub returns-clause-passes : goal.returns-clause-passes
returns-clause-passes g c = λ lt. c.in_ok-outcome.ensures.passes (subst (λ (n : ℕ). n < 1) c.status-status.ensures lt)
