use Rattle.std.proofs.Common.{map}
use Rattle.fix_program.specs.Runs.{path_in}
use Rattle.fix_program.specs.Shown.{none}
use Rattle.fix_program.proofs.Passing.{each_accepted}
use Rattle.fix_program.proofs.run.fix.Goals as goal

pub returns-clause-passes : goal.returns-clause-passes
returns-clause-passes g c low = record {
  catalogue = c.in_ok-catalogue.catalogue;
  list_is = c.in_ok-catalogue.ensures.ok;
  each =
      each_accepted (g.S.Shelf.told c.args.shelf.now) c.in_ok-catalogue.catalogue c.args.request.is_written c.args.request.wanted (map path_in c.args.request.paths.now)
      (record { catalogue = c.in_ok-catalogue.catalogue; paths = c.in_ok-paths.paths }) c.in_ok-paths.ensures.ends low;
}

pub returns-in_err-catalogue-clause-shows : goal.returns-in_err-catalogue-clause-shows
returns-in_err-catalogue-clause-shows g c = none c.args.progress.now
