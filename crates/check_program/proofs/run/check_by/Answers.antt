use Rattle.std.proofs.Common.{◌++◌, refl, map, subst}
use Rattle.finding_forms.specs.Forms.{beginning, ending}
use Rattle.check_files.specs.Tally.{Tally, tally_of}
use Rattle.check_program.specs.Paths.{ArePathSteps, path_in}
use Rattle.check_program.specs.Runs.{IsRunBy, last_lines, ways_in}
use Rattle.check_program.proofs.Runs.{between, none_counted}
use Rattle.line_engine.proofs.Known.{OnErr-always}
use Rattle.check_program.proofs.Begun.{run_in_beginning, run_in_ending, run_in_paths}
use Rattle.check_program.proofs.run.check_by.Goals as goal

pub returns-clause-ok : goal.returns-clause-ok
returns-clause-ok g c =
    let s = g.S.Shelf.told c.args.shelf.now in
    let check = c.args.check.now in
    let a = c.args.request in
    let sums = c.check_paths.new.sums in
    between (g.O.Sink.told c.args.output.now) (g.O.Sink.told c.put_first.new.output) (g.O.Sink.told c.check_paths.new.output) (g.O.Sink.told c.put_last.new.output)
    (g.T.Telling.told c.args.teller.now) (g.T.Telling.told c.check_paths.new.teller) (beginning check.format c.args.version.now) (ending check.format ++ last_lines a.summary check.format sums)
    (λ text told. ArePathSteps s check (ways_in a) (map path_in a.paths.now) (tally_of c.new-sums.result) text told (tally_of sums))
    (λ text told. IsRunBy s check c.args.version.now a text told c.status.result) c.in_ok-put_first.ensures.ok c.in_ok-check_paths.ensures.ok c.in_ok-put_last.ensures.ok
    (λ text told h. record {
      sums = sums;
      found = text;
      steps = subst (λ (t : Tally). ArePathSteps s check (ways_in a) (map path_in a.paths.now) t text told (tally_of sums)) (none_counted c.new-sums.result c.new-sums.ensures) h;
      text_is = refl;
      status_is = c.status.ensures.exact;
    })

pub returns-in_err-put_first-clause-begun : goal.returns-in_err-put_first-clause-begun
returns-in_err-put_first-clause-begun g c =
    OnErr-always c.from_residual.result _
    (run_in_beginning (g.S.Shelf.told c.args.shelf.now) c.args.check.now c.args.version.now c.args.request (g.O.Sink.told c.args.output.now) (g.O.Sink.told c.put_first.new.output)
    (g.T.Telling.told c.args.teller.now) c.in_err-put_first.ensures.begun)

pub returns-in_err-check_paths-clause-begun : goal.returns-in_err-check_paths-clause-begun
returns-in_err-check_paths-clause-begun g c =
    OnErr-always c.from_residual-in_err-check_paths.result _
    (run_in_paths (g.S.Shelf.told c.args.shelf.now) c.args.check.now c.args.version.now c.args.request (g.O.Sink.told c.args.output.now) (g.O.Sink.told c.put_first.new.output)
    (g.O.Sink.told c.check_paths.new.output) (g.T.Telling.told c.args.teller.now) (g.T.Telling.told c.check_paths.new.teller) c.in_ok-put_first.ensures.ok (tally_of c.new-sums.result)
    (none_counted c.new-sums.result c.new-sums.ensures) c.in_err-check_paths.ensures.begun)

pub returns-in_err-put_last-clause-begun : goal.returns-in_err-put_last-clause-begun
returns-in_err-put_last-clause-begun g c =
    OnErr-always c.from_residual-in_err-put_last.result _
    (run_in_ending (g.S.Shelf.told c.args.shelf.now) c.args.check.now c.args.version.now c.args.request (g.O.Sink.told c.args.output.now) (g.O.Sink.told c.put_first.new.output)
    (g.O.Sink.told c.check_paths.new.output) (g.T.Telling.told c.args.teller.now) (g.T.Telling.told c.check_paths.new.teller) c.in_ok-put_first.ensures.ok (tally_of c.new-sums.result)
    (none_counted c.new-sums.result c.new-sums.ensures) (g.O.Sink.told c.put_last.new.output) c.check_paths.new.sums c.in_ok-check_paths.ensures.ok c.in_err-put_last.ensures.begun)
