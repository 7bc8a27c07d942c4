use Rattle.std.specs.Option.{option_copied}
use Rattle.source_trees.specs.Walks.{waiting}
use Rattle.check_files.specs.Noted.{notes_of}
use Rattle.check_files.specs.Tally.{tally_of}
use Rattle.check_program.specs.Steps.{IsSoFar}
use Rattle.check_program.proofs.steps.walked.Given as goal

abbrev pub invariant-loop-turn : goal.invariant-loop-turn
invariant-loop-turn g l =
    IsSoFar (g.S.Shelf.told l.shelf) l.check l.below.taken (option_copied l.below.folder) (waiting l.fn.walk) (waiting l.walk) (tally_of l.initial.sums) (notes_of l.initial.noted)
    (g.O.Sink.told l.initial.output) (g.O.Sink.told l.output) (g.T.Telling.told l.initial.teller) (g.T.Telling.told l.teller) (tally_of l.sums) (notes_of l.noted)
