use Rattle.source_trees.specs.Walks.{AreTaken, waiting}
use Rattle.source_trees.proofs.whole.walked.Given as goal

abbrev pub invariant-loop : goal.invariant-loop
invariant-loop g l =
    AreTaken (g.S.Shelf.told l.shelf) (waiting l.initial.walk) l.all.items (waiting l.walk)
