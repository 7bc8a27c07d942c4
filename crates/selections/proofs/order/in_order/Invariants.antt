use Rattle.std.specs.Prelude.{All}
use Rattle.std.specs.List.Sorted.{IsStrictlyIncreasing}
use Rattle.selections.specs.Sets.{sets_in}
use Rattle.selections.proofs.Ordered.{AreSame}
use Rattle.selections.proofs.order.in_order.Given as goal

abbrev pub invariant-loop-set : goal.invariant-loop-set
invariant-loop-set l = record {
  same : AreSame (sets_in l.ordered.items) (sets_in l.yielded);
  rise : All IsStrictlyIncreasing (sets_in l.ordered.items);
}
