use Rattle.std.proofs.Common.{rules, map}
use Rattle.std.specs.List.Sorted.{IsSortedBy}
use Rattle.std.specs.Ordering.{is_lt}
use Rattle.std.proofs.lemmas.Fn.{always_returns_same}
use Rattle.std.proofs.lemmas.List.Sorted.{IsPermutation-map, ranks_by}
use Rattle.package_changes.specs.declared.package.Package.{Package}
use Rattle.package_changes.specs.Rows.{row_of}
use Rattle.package_changes.specs.Order.{row_cmp}
use Rattle.package_changes.proofs.Orders.{row_total, row_same, rises_front}
use Rattle.package_changes.proofs.Sorting.{from_sorted, order_unique}
use Rattle.package_changes.proofs.changes.pairing.sorted.Goals as goal

pub returns-clause-is : goal.returns-clause-is
returns-clause-is c =
    let l = c.args.likeness in
    let sorted = c.sort_unstable_by.new.self.items in
    let up : IsSortedBy (λ (x : Package) (y : Package). is_lt (row_cmp l (row_of x) (row_of y))) sorted = c.sort_unstable_by.ensures.sorted (λ x y. is_lt (row_cmp l (row_of x) (row_of y))) (ranks_by (row_total l) row_of) (search (rules, always_returns_same)) in
    order_unique (row_cmp l) (row_total l) (row_same l) (map row_of c.args.packages.items) (map row_of sorted) (IsPermutation-map row_of _ sorted c.sort_unstable_by.ensures.permutation) (from_sorted (row_cmp l) (row_total l) row_of sorted up)

pub returns-clause-rises : goal.returns-clause-rises
returns-clause-rises c =
    let l = c.args.likeness in
    let sorted = c.sort_unstable_by.new.self.items in
    let up : IsSortedBy (λ (x : Package) (y : Package). is_lt (row_cmp l (row_of x) (row_of y))) sorted = c.sort_unstable_by.ensures.sorted (λ x y. is_lt (row_cmp l (row_of x) (row_of y))) (ranks_by (row_total l) row_of) (search (rules, always_returns_same)) in
    rises_front l (map row_of sorted) (from_sorted (row_cmp l) (row_total l) row_of sorted up)
