use Rattle.std.proofs.Common.{map, take}
use Rattle.std.specs.List.{AllZip}
use Rattle.fix_program.specs.Shown.{AreShown}
use Rattle.fix_program.specs.Runs.{IsPathEnd, path_in}
use Rattle.fix_program.proofs.run.paths_fixed.Given as goal

abbrev pub invariant-loop-path : goal.invariant-loop-path
invariant-loop-path g l =
    AllZip (IsPathEnd (g.S.Shelf.told l.shelf) l.manner.catalogue.now l.manner.is_written l.wanted) (map path_in (take l.path-index l.paths)) l.fixed.items
    × AreShown g.P.Progress.Shows l.initial.progress l.progress
