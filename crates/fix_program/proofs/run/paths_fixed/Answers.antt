use Rattle.std.proofs.Common.{rules}
use Rattle.fix_program.specs.Shown.{none}
use Rattle.fix_program.proofs.Shown.{both_shown}
use Rattle.fix_program.specs.Runs.{IsPathEnd}
use Rattle.fix_program.proofs.Runs.{one_more}
use Rattle.fix_program.proofs.run.paths_fixed.Goals as goal

pub loop-path-preserved : goal.loop-path-preserved
loop-path-preserved g c = (
  one_more (IsPathEnd (g.S.Shelf.told c.args.shelf.now) c.args.manner.catalogue.now c.args.manner.is_written c.args.wanted) c.args.paths.now c.loop-path.path-index _ c.loop-path.fixed.items _ _
      c.loop-path-test.true c.loop-path.invariant.0 c.in_ok-ends.ensures.ends c.in_ok-push.ensures.items,
  both_shown g.P.Progress.Shows c.loop-path.invariant.1 c.path_ends.ensures.shows,
)

pub loop-path-init : goal.loop-path-init
loop-path-init g c = (search rules, none c.args.progress.now)

pub returns-in_err-ends-clause-shows : goal.returns-in_err-ends-clause-shows
returns-in_err-ends-clause-shows g c = both_shown g.P.Progress.Shows c.loop-path.invariant.1 c.path_ends.ensures.shows

pub returns-in_err-push-clause-shows : goal.returns-in_err-push-clause-shows
returns-in_err-push-clause-shows g c = both_shown g.P.Progress.Shows c.loop-path.invariant.1 c.path_ends.ensures.shows
