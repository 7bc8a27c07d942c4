use Rattle.std.proofs.Common.{◌≡◌, ◌++◌, map, fold, drop}
use Rattle.selections.specs.Sets.{with_set, sets_in}
use Rattle.selections.proofs.sets.add_unions.Given as goal

abbrev pub invariant-loop-set : goal.invariant-loop-set
invariant-loop-set l =
    fold with_set (sets_in l.sets.items) (map (λ r. r ++ l.left) (sets_in (drop l.set-index l.right)))
    ≡ fold with_set (sets_in l.fn.sets.items) (map (λ r. r ++ l.left) (sets_in l.right))
