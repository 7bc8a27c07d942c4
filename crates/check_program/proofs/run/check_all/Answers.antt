use Rattle.std.proofs.Common.{ap, map, refl}
use Rattle.spdx_list.specs.Shown.{shown_extras, shown_replacement}
use Rattle.check_program.specs.Runs.{inside_of}
use Rattle.check_program.proofs.Begun.{run_broken}
use Rattle.check_program.proofs.run.check_all.Goals as goal

pub returns-in_err-status-clause-err : goal.returns-in_err-status-clause-err
returns-in_err-status-clause-err g c =
    run_broken (g.S.Shelf.told c.args.shelf.now) (inside_of c.args.inside) c.args.request _ (g.O.Sink.told c.args.output.now) (g.O.Sink.told c.check_by.new.output)
    (g.T.Telling.told c.args.teller.now) (g.T.Telling.told c.check_by.new.teller) c.in_err-status.field-0.0 c.from_residual-in_err-status.result c.from_residual-in_err-status.ensures.1
    c.in_err-status.ensures.err
    (record {
      list_is = c.in_ok-catalogue.ensures.ok;
      extras = shown_extras c.in_ok-extras.extras;
      says = c.in_ok-extras.ensures.ok;
      replacements_are = ap (map shown_replacement) c.as_slice.ensures.value;
      mode_is = refl;
      format_is = refl;
    })
    c.in_err-status.ensures.begun
