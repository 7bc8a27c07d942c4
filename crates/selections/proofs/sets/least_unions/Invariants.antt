use Rattle.std.proofs.Common.{◌≡◌, fold, drop}
use Rattle.selections.specs.Sets.{with_set, unions, both, sets_in}
use Rattle.selections.proofs.sets.least_unions.Given as goal

abbrev pub invariant-loop-set : goal.invariant-loop-set
invariant-loop-set l = fold with_set (sets_in l.sets.items) (unions (sets_in (drop l.set-index l.left)) (sets_in l.right)) ≡ both (sets_in l.left) (sets_in l.right)
