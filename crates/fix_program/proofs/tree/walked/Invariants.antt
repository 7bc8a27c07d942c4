use Rattle.source_trees.specs.Walks.{waiting}
use Rattle.fix_program.specs.Shown.{AreShown}
use Rattle.fix_program.specs.Trees.{AreSoFar}
use Rattle.fix_program.proofs.tree.walked.Given as goal

abbrev pub invariant-loop-turn : goal.invariant-loop-turn
invariant-loop-turn g l =
    AreSoFar (g.S.Shelf.told l.shelf) l.manner.catalogue.now l.manner.is_written l.taken (waiting l.fn.walk) (waiting l.walk) l.ends.items
    × AreShown g.P.Progress.Shows l.initial.progress l.progress
