use Rattle.std.proofs.Common.{sym, ◌≡◌, subst}
use Rattle.std.proofs.Math.Dec.{eqb}
use Rattle.std.specs.List.{dedup}
use Rattle.std.specs.List.Sorted.{IsStrictlyIncreasing}
use Rattle.std.proofs.lemmas.List.Filters.{dedup_is}
use Rattle.std.proofs.lemmas.Map.Keys.{IsStrictlyIncreasing-dedup}
use Rattle.selections.proofs.Ordered.{sorted_same}
use Rattle.selections.proofs.order.ascending.Goals as goal

pub returns-clause-same : goal.returns-clause-same
returns-clause-same c = sorted_same c.args.set.items c.sort_unstable.new.self.items c.dedup.new.self.items c.sort_unstable.ensures.permutation c.dedup.ensures.filtered

pub returns-clause-rises : goal.returns-clause-rises
returns-clause-rises c =
    let sorted = c.sort_unstable.new.self.items in
    let left = c.dedup.new.self.items in
    let is : left ≡ dedup eqb sorted = dedup_is eqb sorted left c.dedup.ensures.filtered in
    subst IsStrictlyIncreasing (sym is) (IsStrictlyIncreasing-dedup sorted c.sort_unstable.ensures.sorted)
