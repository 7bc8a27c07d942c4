use Rattle.std.proofs.Common.{map, take}
use Rattle.check_files.specs.Tally.{tally_of}
use Rattle.check_files.specs.Told.{Does}
use Rattle.check_program.specs.Paths.{ArePathSteps, path_in, ways_of}
use Rattle.check_program.proofs.path.check_paths.Given as goal

abbrev pub invariant-loop-path : goal.invariant-loop-path
invariant-loop-path g l =
    Does (g.O.Sink.told l.initial.output) (g.O.Sink.told l.output) (g.T.Telling.told l.initial.teller) (g.T.Telling.told l.teller)
    (λ text told. ArePathSteps (g.S.Shelf.told l.shelf) l.check (ways_of l.ways) (map path_in (take l.path-index l.paths)) (tally_of l.initial.sums) text told (tally_of l.sums))
