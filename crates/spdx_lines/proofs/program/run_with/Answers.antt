use Rattle.std.proofs.Common.{◌≡◌, Ok, Err, sym, subst}
use Rattle.line_engine.specs.Device.{devices}
use Rattle.spdx_lines.specs.Program.{texts_of, licensees_from}
use Rattle.spdx_lines.specs.Found.{found}
use Rattle.spdx_lines.proofs.Ends.{ran, stopped_early}
use Rattle.spdx_lines.proofs.program.run_with.Goals as goal

pub returns-in-Ok : goal.returns-in-Ok
returns-in-Ok g c =
    let named = subst (λ reqs. licensees_from found c.args.catalogue.now 1 (texts_of c.args.licensees.now) ≡ Ok reqs) (sym c.deref.ensures.value) c.in_ok-accepted.ensures.ok in
    let d = devices (g.I.Source.told c.args.input.now) (g.I.Source.told c.run_task.new.input) (g.O.Sink.told c.args.output.now) (g.O.Sink.told c.run_task.new.output) in
    ran c.args.catalogue.now c.args.task (texts_of c.args.licensees.now) c.deref.result.now d (Ok c.in-Ok.summary) named c.in-Ok.ensures

pub returns : goal.returns
returns g c =
    let named = subst (λ reqs. licensees_from found c.args.catalogue.now 1 (texts_of c.args.licensees.now) ≡ Ok reqs) (sym c.deref.ensures.value) c.in_ok-accepted.ensures.ok in
    let d = devices (g.I.Source.told c.args.input.now) (g.I.Source.told c.run_task.new.input) (g.O.Sink.told c.args.output.now) (g.O.Sink.told c.run_task.new.output) in
    ran c.args.catalogue.now c.args.task (texts_of c.args.licensees.now) c.deref.result.now d (Err c.in-Err.fault) named c.in-Err.ensures

pub returns-in_err-accepted : goal.returns-in_err-accepted
returns-in_err-accepted g c =
    stopped_early c.args.catalogue.now c.args.task (texts_of c.args.licensees.now)
    (g.I.Source.told c.args.input.now) (g.O.Sink.told c.args.output.now)
    c.from_residual.result c.in_err-accepted.field-0.0 c.from_residual.ensures.1 c.in_err-accepted.ensures.err
